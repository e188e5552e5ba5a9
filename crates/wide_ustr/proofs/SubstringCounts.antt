-- A bound on the number of substrings of units.
use Rattle.std.proofs.Common.{◌≡◌, ℕ, ◌+◌, ◌*◌, ◌^◌, ◌<◌, ◌≤◌, List, [], ◌∷◌, arith, length}
use Rattle.std.specs.Prelude.{map}
use Rattle.std.proofs.lemmas.List.{length-map}
use Rattle.wide_forms.specs.EncodingForm.{EncodingForm, Utf16, Utf32}
use Rattle.wide_forms.specs.UnitBytes.{unit_width}
use Rattle.wide_search.specs.Cut.{substrings}
use Rattle.wide_search.specs.Laws.Cuts.{substrings-at_most}
use Rattle.wide_ustr.specs.SplitMore.{filled, terminated}

pub few_units : (form : EncodingForm) (n bytes : ℕ) → bytes ≡ unit_width form * n → bytes < 2 ^ 63 → n + 1 < 2 ^ 64
few_units Utf16 n bytes long bound = omega (arith, long, bound)
few_units Utf32 n bytes long bound = omega (arith, long, bound)

module _ {C : Type 0} (number : C → ℕ) (needle : List ℕ) (us : List C) where
  pub substrings-most : length (substrings needle (map number us)) ≤ length us + 1
  substrings-most = omega (arith, substrings-at_most needle (map number us), length-map us number)

  -- Units take memory, so there are so few that one more substring can be counted.
  pub substrings-fit : (form : EncodingForm) (bytes : ℕ) → bytes ≡ unit_width form * length us → bytes < 2 ^ 63 → length (substrings needle (map number us)) < 2 ^ 64
  substrings-fit form bytes long bound = omega (arith, substrings-most, few_units form (length us) bytes long bound)

-- There are no more substrings if those that are empty are left out, or an empty last one.
pub filled-length : {A : Type 0} (lists : List (List A)) → length (filled lists) ≤ length lists
filled-length [] = omega arith
filled-length ([] ∷ lists) = omega (arith, filled-length lists)
filled-length ((x ∷ xs) ∷ lists) = omega (arith, filled-length lists)

pub terminated-length : {A : Type 0} (lists : List (List A)) → length (terminated lists) ≤ length lists
terminated-length [] = omega arith
terminated-length ([] ∷ []) = omega arith
terminated-length ((x ∷ xs) ∷ []) = omega arith
terminated-length (first ∷ next ∷ more) = omega (arith, terminated-length (next ∷ more))
