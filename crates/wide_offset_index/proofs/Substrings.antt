-- Substrings of UTF-16 between the offsets of two characters.
use Rattle.std.proofs.Common.{◌≡◌, ℕ, ◌-◌, ◌≤◌, List, sym, ◌∙◌, ap, arith, length, drop, subst, length-drop}
use Rattle.std.specs.Prelude.{map, slice_range}
use Rattle.std.proofs.lemmas.List.{length-take-le, map-id}
use Rattle.wide_forms.specs.EncodingForm.{Utf16}
use Rattle.wide_forms.specs.Items.{chars, IsWellFormed}
use Rattle.wide_forms.specs.Offsets.{IsOffsetOf, IsCharBoundary, IsCharRange}
use Rattle.wide_forms.specs.Laws.Encodings.{offsets-grow}
use Rattle.wide_forms.specs.Laws.Offsets.{IsOffsetOf-prefix}
use Rattle.wide_offset_index.specs.Found.{IsFoundRange}
use Rattle.wide_offset_index.specs.Marks.{offset}
use Rattle.wide_offset_index.proofs.Marking.{char-boundary}
use Rattle.wide_offset_index.proofs.Offsets.{part-text}

module _ (us : List ℕ) (well : IsWellFormed Utf16 us) (from to start stop : ℕ) (forward : from ≤ to) (starts : start ≡ offset (chars Utf16 us) from) (stops : stop ≡ offset (chars Utf16 us) to) where
  -- Two offsets in order are a range.
  part : IsCharRange Utf16 us start stop
  part =
      let first = subst (IsCharBoundary Utf16 us) (sym starts) (char-boundary us well from) in
      let last = subst (IsCharBoundary Utf16 us) (sym stops) (char-boundary us well to) in
      record { within = record { forward = omega (arith, starts, stops, offsets-grow Utf16 (chars Utf16 us) from to forward); within = last.0 }; start = first; end = last }

  pub part-range : IsCharRange Utf16 (map (λ u. u) us) start stop
  part-range = subst (λ vs. IsCharRange Utf16 vs start stop) (sym (map-id us)) part

  module _ (within : to ≤ length (chars Utf16 us)) where
    pub stated : IsFoundRange Utf16 us from to start stop
    stated = record {
      forward = forward;
      within = within;
      starts = subst (IsOffsetOf Utf16 us from) (sym starts) (IsOffsetOf-prefix Utf16 us well from);
      ends = subst (IsOffsetOf Utf16 us to) (sym stops) (IsOffsetOf-prefix Utf16 us well to);
      range = part;
    }

    -- How many characters are between them.
    pub part-count : length (chars Utf16 (map (λ u. u) (slice_range us start stop))) ≡ to - from
    part-count =
        let same = map-id us in
        let text = part-text Utf16 (λ u. u) us (subst (λ vs. IsWellFormed Utf16 vs) (sym same) well) from to start stop (subst (λ vs. IsFoundRange Utf16 vs from to start stop) (sym same) stated) in
        ap length text ∙ ap (λ vs. length (slice_range (chars Utf16 vs) from to)) same ∙ length-take-le (to - from) (drop from (chars Utf16 us)) (omega (arith, length-drop from (chars Utf16 us), within))
