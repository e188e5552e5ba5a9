-- The two parts of a needle, by which a search goes on past the offsets that a mismatch rules out.
use Rattle.std.specs.Prelude.{◌≡◌, ◌↔◌, ℕ, ◌+◌, ◌<◌, ◌≤◌, Bool, false, true, IsTrue}
use Rattle.std.specs.Str.Critical.{IsRepeat}
use Rattle.wide_search.specs.declared.factorization.Factorization.{Factorization}

-- The second part has the period. A list repeats itself at the cut only after at least the period, and after more units
-- than the first part has.
pub record IsFactorization (x : ℕ → ℕ) (m : ℕ) (parts : Factorization) : Type 0 where
  pub below : parts.cut < m
  pub some : 0 < parts.period
  pub fits : parts.cut + parts.period ≤ m
  pub periodic : (i : ℕ) → parts.cut ≤ i → i + parts.period < m → x i ≡ x (i + parts.period)
  pub least : (d : ℕ) → 0 < d → d < parts.period → ¬ (IsRepeat x m parts.cut d)
  pub beyond : (d : ℕ) → 0 < d → d ≤ parts.cut → ¬ (IsRepeat x m parts.cut d)
  pub repeats : IsTrue parts.repeats ↔ IsRepeat x m parts.cut parts.period

-- Whether a number is before another in the order of the numbers, or in the reversed order.
abbrev pub Precedes : Bool → ℕ → ℕ → Type 0
Precedes false number other = number < other
Precedes true number other = other < number
