-- What contracts say about an owned string of units.
use Rattle.std.specs.Prelude.{ℕ, ◌+◌, ◌≤◌, List, refl, length}
use Rattle.std.specs.Coded.{Coded, code_by, coded×, coded_ℕ, coded_list}

-- The units, in order, and how many units fit without allocating.
pub record Units (C : Type 0) : Type 0 where
  pub units : List C
  pub capacity : ℕ

-- `Units` coded as a pair: the units, and how many fit.
abbrev pub units_code : {C : Type 0} → Coded C → Coded (Units C)
units_code {C} code =
    code_by (List C × ℕ) (coded× (coded_list code) coded_ℕ) (λ v. (v.units, v.capacity))
    (λ p. record { units = p.0; capacity = p.1 }) (λ _. refl)

module _ {C : Type 0} where
  -- The length in units.
  abbrev pub ustring_len : Units C → ℕ
  ustring_len s = length s.units

  -- `more` additional units fit without allocating.
  abbrev pub HasSpaceFor : Units C → ℕ → Type 0
  HasSpaceFor s more = length s.units + more ≤ s.capacity
