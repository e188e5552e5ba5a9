-- Occurrences in well-formed units, and among their characters.
use Rattle.std.proofs.Common.{◌≡◌, ℕ, ◌+◌, ◌<◌, ◌≤◌, List, ◌++◌, inl, inr, sym, ◌∙◌, ap, subst, arith, length, length-append, length-drop, length-take, take, drop}
use Rattle.std.proofs.lemmas.List.{take-append-drop, length-take-le, drop-drop}
use Rattle.std.proofs.lemmas.Bool.{cases_eq}
use Rattle.std.proofs.lemmas.List.Concat.{flat_map-append}
use Rattle.std.proofs.Math.Seq.{take-append_seam}
use Rattle.wide_forms.specs.EncodingForm.{EncodingForm, code_units, encode}
use Rattle.wide_forms.specs.Items.{items, characters, chars, IsWellFormed, IsBoundary}
use Rattle.wide_forms.specs.Offsets.{chars_before, IsOffsetOf}
use Rattle.wide_forms.specs.Laws.Ends.{items-append_left}
use Rattle.wide_forms.specs.Laws.Encodings.{encode-drop, offsets-grow}
use Rattle.wide_forms.specs.Laws.Offsets.{IsBoundary-within, IsOffsetOf-boundary, IsOffsetOf-prefix, chars_before-within, encode-chars}
use Rattle.wide_forms.specs.Laws.Policies.{characters-append}
use Rattle.wide_search.specs.Occurrences.{OccursAt, IsFirstAt, IsLastAt}

-- A needle occurs at an index if the rest of the list from there on begins with it.
occurs-of_rest : {A : Type 0} (needle whole rest : List A) (at : ℕ) → at ≤ length whole → drop at whole ≡ needle ++ rest → OccursAt needle whole at
occurs-of_rest needle whole rest at within e = record {
  within = omega (arith, within, length-drop at whole, ap length e, length-append needle rest);
  same = ap (λ xs. take (length needle) xs) e ∙ take-append_seam needle rest;
}

-- If a needle occurs at an index, the rest of the list from there on begins with it.
rest-of_occurs : {A : Type 0} (needle whole : List A) (at : ℕ) → OccursAt needle whole at → drop at whole ≡ needle ++ drop (at + length needle) whole
rest-of_occurs needle whole at occurs =
    sym (take-append-drop (length needle) (drop at whole)) ∙ ap (λ xs. xs ++ drop (length needle) (drop at whole)) occurs.same ∙ ap (λ xs. needle ++ xs) (drop-drop (length needle) at whole)

below-of_other : (a b : ℕ) → a ≤ b → (a ≡ b → ⊥) → a < b
below-of_other a b within other = grind (arith, within, other)

module _ (form : EncodingForm) (needle us : List ℕ) (well_needle : IsWellFormed form needle) (well : IsWellFormed form us) where
  module _ (at : ℕ) (boundary : IsBoundary form us at) where
    -- The number of characters before the boundary.
    abbrev before : ℕ
    before = chars_before form us at

    -- If the units occur, so do the characters.
    pub occurs-chars : OccursAt needle us at → OccursAt (chars form needle) (chars form us) before
    occurs-chars occurs =
        let rest = drop (at + length needle) us in
        let split : chars form (drop at us) ≡ chars form needle ++ chars form rest =
        ap (λ xs. chars form xs) (rest-of_occurs needle us at occurs) ∙ ap characters (items-append_left form needle rest well_needle) ∙ characters-append (items form needle) (items form rest) in
        occurs-of_rest (chars form needle) (chars form us) (chars form rest) before (chars_before-within form us well at boundary) (sym (IsOffsetOf-boundary form us well at boundary).rest ∙ split)

  -- If the characters occur, so do the units, at the offset of the first character.
  occurs-encoded : (n : ℕ) → OccursAt (chars form needle) (chars form us) n → OccursAt needle us (length (encode form (take n (chars form us))))
  occurs-encoded n occurs =
      let cs = chars form us in
      let more = drop (n + length (chars form needle)) cs in
      let offset = length (encode form (take n cs)) in
      let split : encode form (drop n cs) ≡ needle ++ encode form more =
      ap (λ xs. encode form xs) (rest-of_occurs (chars form needle) cs n occurs) ∙ flat_map-append (code_units form) (chars form needle) more ∙ ap (λ xs. xs ++ encode form more) (encode-chars form needle well_needle) in
      let whole : drop offset us ≡ encode form (drop n cs) = ap (λ xs. drop offset xs) (sym (encode-chars form us well)) ∙ sym (encode-drop form cs n) in
      occurs-of_rest needle us (encode form more) offset (IsBoundary-within form us offset (IsOffsetOf-prefix form us well n).boundary) (whole ∙ split)

  module _ (at : ℕ) (boundary : IsBoundary form us at) where
    offset-is : length (encode form (take (before at boundary) (chars form us))) ≡ at
    offset-is =
        let offset = IsOffsetOf-boundary form us well at boundary in
        ap length (sym offset.encoded) ∙ length-take-le at us (IsBoundary-within form us at boundary)

    -- If the characters occur after those before a boundary, the units occur at the boundary.
    pub occurs-units : OccursAt (chars form needle) (chars form us) (before at boundary) → OccursAt needle us at
    occurs-units occurs = subst (λ k. OccursAt needle us k) offset-is (occurs-encoded (before at boundary) occurs)

    -- An earlier character has a smaller offset.
    earlier-below : (n : ℕ) → n < before at boundary → length (encode form (take n (chars form us))) < at
    earlier-below n less =
        let cs = chars form us in
        let grows = offsets-grow form cs n (before at boundary) (omega (arith, less)) in
        elim (cases_eq (length (encode form (take n cs))) at) [
          | inl same ↦ (let here : IsOffsetOf form us n at = subst (λ k. IsOffsetOf form us n k) same (IsOffsetOf-prefix form us well n) in
              absurd (omega (arith, less, ap length here.prefix, length-take n cs)))
          | inr other ↦ below-of_other (length (encode form (take n cs))) at (subst (λ k. length (encode form (take n cs)) ≤ k) offset-is grows) other
        ]

    -- The first occurrence of the units is the first one of the characters.
    pub first-chars : 0 < length needle → IsFirstAt needle us at → IsFirstAt (chars form needle) (chars form us) (before at boundary)
    first-chars some first = record {
      here = occurs-chars at boundary first.here;
      before = λ n less occurs. first.before (length (encode form (take n (chars form us)))) (earlier-below n less) (occurs-encoded n occurs);
    }

    -- A later character has a greater offset.
    later-above : (n : ℕ) → before at boundary < n → n ≤ length (chars form us) → at < length (encode form (take n (chars form us)))
    later-above n more within =
        let cs = chars form us in
        let grows = offsets-grow form cs (before at boundary) n (omega (arith, more)) in
        elim (cases_eq at (length (encode form (take n cs)))) [
          | inl same ↦ (let here : IsOffsetOf form us n at = subst (λ k. IsOffsetOf form us n k) (sym same) (IsOffsetOf-prefix form us well n) in
              absurd (omega (arith, more, within, ap length here.prefix, length-take n cs)))
          | inr other ↦ below-of_other at (length (encode form (take n cs))) (subst (λ k. k ≤ length (encode form (take n cs))) offset-is grows) other
        ]

    -- The last occurrence of the units is the last one of the characters.
    pub last-chars : IsLastAt needle us at → IsLastAt (chars form needle) (chars form us) (before at boundary)
    last-chars last = record {
      here = occurs-chars at boundary last.here;
      beyond = λ n more occurs. last.beyond (length (encode form (take n (chars form us)))) (later-above n more (omega (arith, occurs.within))) (occurs-encoded n occurs);
    }
