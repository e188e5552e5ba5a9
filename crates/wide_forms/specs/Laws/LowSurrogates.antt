-- The number of units of characters in UTF-16, by their low surrogates.
use Rattle.std.proofs.Common.{◌≡◌, ℕ, ◌+◌, ◌<◌, ◌≤◌, true, false, List, [], ◌∷◌, inl, inr, refl, arith, suc, cond, get_or, length, length-append, sum_by}
use Rattle.std.specs.Char.{IsScalar}
use Rattle.std.proofs.lemmas.Bool.{cases_lt}
use Rattle.std.proofs.lemmas.List.Sums.{sum_by-append}
use Rattle.wide_forms.specs.EncodingForm.{Utf16, code_units, encode}
use Rattle.wide_forms.specs.Searches.{is_low}
use Rattle.wide_forms.specs.Laws.Forms.{ranges, one_unit, two_units, high_of, low_of}

abbrev weight : ℕ → ℕ
weight u = cond (is_low u) 1 0

-- Each character has one unit that is no low surrogate.
weight-character : (c : ℕ) → IsScalar c → sum_by weight (code_units Utf16 c) + 1 ≡ length (code_units Utf16 c)
weight-character c scalar = elim (cases_lt c 0x1_0000) [
  | inl below ↦ (let none : is_low c ≡ false = not_low c (ranges c scalar).no_surrogate in rw (one_unit c below, none) refl)
  | inr from ↦ (let first : is_low (high_of c) ≡ false = high-not_low c (ranges c scalar).below in let second : is_low (low_of c) ≡ true = low-low c in rw (two_units c from, first, second) refl)
]
  where
    not_low : (u : ℕ) → (0xD800 ≤ u → 0xE000 ≤ u) → is_low u ≡ false
    not_low u apart = grind (arith, apart)

    high-not_low : (u : ℕ) → u < 0x11_0000 → is_low (high_of u) ≡ false
    high-not_low u below = grind (arith, below)

    low-low : (u : ℕ) → is_low (low_of u) ≡ true
    low-low u = grind arith

-- There are as many units as characters and low surrogates together.
pub low-encode : (cs : List ℕ) → ((k d : ℕ) → k < length cs → IsScalar (get_or cs k d)) → sum_by weight (encode Utf16 cs) + length cs ≡ length (encode Utf16 cs)
low-encode [] scalars = refl
low-encode (c ∷ cs) scalars =
    omega (arith, weight-character c (scalars 0 0 (omega arith)), low-encode cs (λ k d l. scalars (suc k) d (omega arith)), sum_by-append weight (code_units Utf16 c) (encode Utf16 cs), length-append (code_units Utf16 c) (encode Utf16 cs))
