-- Matches in well-formed text: both ends of each are boundaries.
use Rattle.std.proofs.Common.{◌≡◌, ℕ, ◌+◌, ◌-◌, ◌<◌, List, ◌++◌, refl, sym, ◌∙◌, ap, subst, arith, length, take, drop}
use Rattle.std.specs.Prelude.{map, slice_range}
use Rattle.std.specs.List.{All}
use Rattle.std.proofs.lemmas.List.{drop-drop, take-append-drop, take-map}
use Rattle.wide_forms.specs.EncodingForm.{EncodingForm}
use Rattle.wide_forms.specs.Items.{IsBoundary, IsWellFormed}
use Rattle.wide_forms.specs.Offsets.{IsCharBoundary}
use Rattle.wide_unit.proofs.CharBoundaries.{IsCharBoundary-of}
use Rattle.wide_search.specs.Occurrences.{IsFirstAt, IsLastAt}
use Rattle.wide_search.specs.Laws.Ends.{IsBoundary-needle, IsBoundary-after_needle}
use Rattle.wide_ustr.specs.Matched.{matches_in, IsFirstMatch, IsLastMatch}
use Rattle.wide_ustr.proofs.BothEnds.{NeverOverlaps, occurs-further}
use Rattle.wide_ustr.proofs.Matched.{each-match, first-match}
use Rattle.wide_ustr.proofs.MatchedEnds.{last-match}

module _ (form : EncodingForm) (needle us : List ℕ) (well_needle : IsWellFormed form needle) (well : IsWellFormed form us) where
  -- Each match begins at a boundary.
  pub matches-start : All (λ m. IsCharBoundary form us m.0) (matches_in needle us)
  matches-start = each-match (IsCharBoundary form us) needle us (λ at some occurs. IsCharBoundary-of form us at well (IsBoundary-needle form needle us at well_needle some occurs))

  -- Each match ends at a boundary.
  pub matches-end : (n : ℕ) → n ≡ length needle → All (λ m. IsCharBoundary form us (m.0 + n)) (matches_in needle us)
  matches-end n e = each-match (λ at. IsCharBoundary form us (at + n)) needle us (λ at some occurs.
      IsCharBoundary-of form us (at + n) well (subst (λ k. IsBoundary form us (at + k)) (sym e) (IsBoundary-after_needle form needle us at well_needle some occurs)))

-- The first occurrence of a needle, given by its numbers, is cut from the units by its offsets.
pub slice-match : {X : Type 0} (number : X → ℕ) (needle : List ℕ) (us found rest : List X) (at n end : ℕ) → 0 < length needle → n ≡ length needle → end ≡ at + n → IsFirstAt needle (map number us) at → found ≡ slice_range us at end → rest ≡ drop end us
    → IsFirstMatch needle (map number us) at (map number found) (map number rest)
slice-match number needle us found rest at n end some count e first is_found is_rest =
    first-match number needle us (drop at us) found rest at n some count first refl
    (is_found ∙ ap (λ k. take k (drop at us)) {x = end - at} {y = n} (omega (arith, e)))
    (is_rest ∙ ap (λ k. drop k us) e ∙ sym (drop-drop n at us))

-- The last occurrence of a needle, given by its numbers, is cut from the units by its offsets.
pub slice-last : {X : Type 0} (number : X → ℕ) (needle : List ℕ) (us before found : List X) (at n end : ℕ) → NeverOverlaps needle → 0 < length needle → n ≡ length needle → end ≡ at + n → IsLastAt needle (map number us) at → before ≡ take at us → found ≡ slice_range us at end
    → IsLastMatch needle (map number us) (map number before) (map number found)
slice-last number needle us before found at n end apart some count e last is_before is_found =
    last-match number needle us before (drop at us) found at n apart some count last is_before refl (is_found ∙ ap (λ k. take k (drop at us)) {x = end - at} {y = n} (omega (arith, e)))

-- The offset after a needle that occurs in a prefix of the units is a boundary.
pub boundary-after_last : {X : Type 0} (form : EncodingForm) (number : X → ℕ) (needle : List ℕ) (us body : List X) (k at n : ℕ) → IsWellFormed form needle → IsWellFormed form (map number us) → 0 < length needle → n ≡ length needle → body ≡ take k us → IsLastAt needle (map number body) at
    → IsCharBoundary form (map number us) (at + n)
boundary-after_last form number needle us body k at n well_needle well some count is_body last =
    let whole = map number us in
    let all : whole ≡ map number body ++ drop k whole = sym (take-append-drop k whole) ∙ ap (λ xs. xs ++ drop k whole) (take-map number k us ∙ ap (map number) (sym is_body)) in
    let occurs = occurs-further needle whole (map number body) (drop k whole) at all last.here in
    IsCharBoundary-of form whole (at + n) well (subst (λ m. IsBoundary form whole (at + m)) (sym count) (IsBoundary-after_needle form needle whole at well_needle some occurs))
