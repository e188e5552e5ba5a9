-- A needle that occurs in text without regard to the case of ASCII letters has boundaries at both its ends.
use Rattle.std.proofs.Common.{◌≡◌, ℕ, ◌+◌, List, length, map, sym, ◌∙◌, subst}
use Rattle.std.specs.Char.{to_ascii_lowercase}
use Rattle.std.proofs.lemmas.List.{map-id, length-map}
use Rattle.wide_forms.specs.EncodingForm.{EncodingForm}
use Rattle.wide_forms.specs.Items.{IsWellFormed}
use Rattle.wide_forms.specs.Offsets.{IsCharBoundary}
use Rattle.wide_ascii.proofs.Texts.{lowercase-of_ascii, IsWellFormed-mapped, IsCharBoundary-of_mapped}
use Rattle.wide_search.specs.Lowercased.{lowercased}
use Rattle.wide_search.specs.Occurrences.{IsFirstAt}
use Rattle.wide_search.proofs.Texts.{first-ends}

module _ {X : Type 0} (form : EncodingForm) (number : X → ℕ) where
  well-lowercased : (us : List X) → IsWellFormed form (map number us) → IsWellFormed form (map (λ u. u) (lowercased (map number us)))
  well-lowercased us well = subst (IsWellFormed form) (sym (map-id (lowercased (map number us)))) (IsWellFormed-mapped to_ascii_lowercase lowercase-of_ascii form (map number us) well)

  boundary : (us : List X) (at : ℕ) → IsCharBoundary form (map (λ u. u) (lowercased (map number us))) at → IsCharBoundary form (map number us) at
  boundary us at is = IsCharBoundary-of_mapped to_ascii_lowercase lowercase-of_ascii form (map number us) at (subst (λ xs. IsCharBoundary form xs at) (map-id (lowercased (map number us))) is)

  -- Both ends of the first occurrence are boundaries.
  pub first-ends_lowercased : (us : List X) → IsWellFormed form (map number us) → (needle : List X) (at : ℕ) → IsWellFormed form (map number needle) → IsFirstAt (lowercased (map number needle)) (lowercased (map number us)) at
      → IsCharBoundary form (map number us) at × IsCharBoundary form (map number us) (at + length needle)
  first-ends_lowercased us well needle at well_needle first =
      let sought = lowercased (map number needle) in
      let ends = first-ends form (λ u. u) (lowercased (map number us)) (well-lowercased us well) sought at (well-lowercased needle well_needle) first in
      let long : length sought ≡ length needle = length-map (map number needle) to_ascii_lowercase ∙ length-map needle number in
      (boundary us at ends.0, subst (λ n. IsCharBoundary form (map number us) (at + n)) long (boundary us (at + length sought) ends.1))
