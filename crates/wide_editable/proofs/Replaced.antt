-- Edits that replace a range of characters, and the offsets of those after it.
use Rattle.std.proofs.Common.{◌≡◌, ℕ, ◌+◌, ◌*◌, ◌-◌, ◌/◌, ◌≤◌, ◌<◌, inl, inr, List, [], ◌∷◌, ◌++◌, refl, sym, ◌∙◌, ap, append_assoc, arith, length, take, drop, subst, get_or, length-append, length-drop}
use Rattle.std.specs.Prelude.{◌⊎◌, false, true, map, slice_range}
use Rattle.std.specs.List.{splice}
use Rattle.std.specs.Borrow.{Bor}
use Rattle.std.specs.Str.{chars as str_chars}
use Rattle.std.proofs.lemmas.Bool.Decides.{leb_tells}
use Rattle.std.proofs.lemmas.List.{length-take-le, drop-drop, map-id}
use Rattle.std.proofs.lemmas.List.FromFn.{length-map-range_with_len}
use Rattle.std.proofs.Math.Seq.{drop-append_seam}
use Rattle.wide_forms.specs.EncodingForm.{Utf16}
use Rattle.wide_forms.specs.Items.{chars, IsWellFormed}
use Rattle.wide_forms.specs.Offsets.{IsOffsetOf, IsCharBoundary, IsCharRange}
use Rattle.wide_forms.specs.Laws.Encodings.{offsets-grow}
use Rattle.wide_forms.specs.Laws.Offsets.{IsOffsetOf-prefix, offset-IsOffsetOf}
use Rattle.wide_offset_index.specs.Found.{IsFoundRange}
use Rattle.wide_offset_index.proofs.Offsets.{part-text}
use Rattle.wide_edit.specs.Step.{changed, is_range}
use Rattle.wide_offset_index.specs.Marks.{offset, index_entry, index_entries, IsMoved, IsEdited, AreMoved}
use Rattle.wide_editable.specs.Replaced.{Replaces}
use Rattle.wide_edit.specs.declared.edits.Edit.TheVariants.{Insert, InsertStr, Remove, Drain, Replace}
use Rattle.wide_offset_index.proofs.Lengths.{size, size-cut}
use Rattle.wide_editable.proofs.Made.{in_place, in_range, below, not_below}
use Rattle.wide_editable.proofs.Kept.{take-splice}
use Rattle.wide_offset_index.proofs.Marking.{all-some, index_entry-at, char-boundary, well-formed, whole-size}

module _ (l : List ℕ) where
  pub replaces-splice : (m : List ℕ) (i j : ℕ) → i ≤ j → j ≤ length l → Replaces l (splice l i j m) i j
  replaces-splice m i j forward within =
      let new = take i l ++ (m ++ drop j l) in
      let first = take i l ++ m in
      let short : length (take i l) ≡ i = length-take-le i l (omega (arith, forward, within)) in
      let long : length first ≡ i + length m = length-append (take i l) m ∙ ap (λ n. n + length m) short in
      let whole : length new ≡ i + length m + (length l - j) = omega (arith, short, length-append (take i l) (m ++ drop j l), length-append m (drop j l), length-drop j l) in
      let at : length new + j - length l ≡ length first = omega (arith, whole, long, within) in
      record {
        fits = omega (arith, whole, within);
        prefix = take-splice l i i j m (omega arith) (omega (arith, forward, within));
        rest = ap (λ n. drop n new) at ∙ ap (drop (length first)) (sym (append_assoc (take i l) m (drop j l))) ∙ drop-append_seam first (drop j l);
      }

  pub replaces-none : Replaces l l (length l) (length l)
  replaces-none = record { fits = omega arith; prefix = refl; rest = ap (λ n. drop n l) (omega arith) }

  -- The range is the one that was stated, or, if that is no range of the text, the empty one at the end.
  abbrev pub IsStated : ℕ → ℕ → ℕ → ℕ → Type 0
  IsStated a b from to = ((from ≡ a) × (to ≡ b)) ⊎ ((is_range a b (length l) ≡ false) × (from ≡ length l) × (to ≡ length l))

  pub stated-count : (a b from to count : ℕ) → count ≡ length l → ((from ≡ a) × (to ≡ b)) ⊎ ((is_range a b count ≡ false) × (from ≡ count) × (to ≡ count)) → IsStated a b from to
  stated-count a b from to count e is = rw (← e) is

  place_past : (i : ℕ) → is_range i i (length l) ≡ false → i ≤ length l → ⊥
  place_past i none le =
      let e : true ≡ false = sym (in_range i i (length l) (omega arith) le) ∙ none in
      absurd cc

  module _ (from to : ℕ) (forward : from ≤ to) (within : to ≤ length l) where
    at_end : from ≡ length l → to ≡ length l → Replaces l l from to
    at_end e f = rw (e, f) replaces-none

    pub replaced-insert : (i c : ℕ) → IsStated i i from to → Replaces l (changed l (Insert i c)) from to
    replaced-insert i c (inl same) =
        let le : i ≤ length l = omega (arith, same.0, forward, within) in
        rw (in_place i (length l) le, same.0, same.1) (replaces-splice (c ∷ []) i i (omega arith) le)
    replaced-insert i c (inr none) = elim (leb_tells i (length l)) [
      | inl t ↦ absurd (place_past i (none.0) (t.1))
      | inr t ↦ rw (t.0) (at_end (none.1) (none.2))
    ]

    pub replaced-insert_str : (i : ℕ) (t : Bor (List ℕ)) → IsStated i i from to → Replaces l (changed l (InsertStr i t)) from to
    replaced-insert_str i t (inl same) =
        let le : i ≤ length l = omega (arith, same.0, forward, within) in
        rw (in_place i (length l) le, same.0, same.1) (replaces-splice (str_chars t.now) i i (omega arith) le)
    replaced-insert_str i t (inr none) = elim (leb_tells i (length l)) [
      | inl p ↦ absurd (place_past i (none.0) (p.1))
      | inr p ↦ rw (p.0) (at_end (none.1) (none.2))
    ]

    pub replaced-remove : (i : ℕ) → ((from ≡ i) × (to ≡ i + 1)) ⊎ ((length l ≤ i) × (from ≡ length l) × (to ≡ length l)) → Replaces l (changed l (Remove i)) from to
    replaced-remove i (inl same) =
        let lt : i < length l = omega (arith, same.1, within) in
        rw (below i (length l) lt, same.0, same.1) (replaces-splice [] i (i + 1) (omega arith) (omega (arith, lt)))
    replaced-remove i (inr none) = rw (not_below i (length l) (none.0)) (at_end (none.1) (none.2))

    pub replaced-drain : (a b : ℕ) → IsStated a b from to → Replaces l (changed l (Drain a b)) from to
    replaced-drain a b (inl same) =
        let le : a ≤ b = omega (arith, same.0, same.1, forward) in
        let last : b ≤ length l = omega (arith, same.1, within) in
        rw (in_range a b (length l) le last, same.0, same.1) (replaces-splice [] a b le last)
    replaced-drain a b (inr none) = rw (none.0) (at_end (none.1) (none.2))

    pub replaced-replace : (a b : ℕ) (t : Bor (List ℕ)) → IsStated a b from to → Replaces l (changed l (Replace a b t)) from to
    replaced-replace a b t (inl same) =
        let le : a ≤ b = omega (arith, same.0, same.1, forward) in
        let last : b ≤ length l = omega (arith, same.1, within) in
        rw (in_range a b (length l) le last, same.0, same.1) (replaces-splice (str_chars t.now) a b le last)
    replaced-replace a b t (inr none) = rw (none.0) (at_end (none.1) (none.2))

module _ (old new : List ℕ) (from to : ℕ) (within : to ≤ length old) (edit : Replaces old new from to) where
  -- As many units follow a character after the range in the new text as in the old one.
  pub moved : (n : ℕ) → to ≤ n → n ≤ length old → IsMoved new (length new + n - length old) (size Utf16 old) (offset old n)
  moved n after most =
      let first = length new + to - length old in
      let k = n - to in
      let m = length new + n - length old in
      let there : m ≡ first + k = omega (arith, edit.fits, after, within) in
      let back : to + k ≡ n = omega (arith, after) in
      let tails : drop m new ≡ drop n old = ap (λ i. drop i new) there ∙ sym (drop-drop k first new) ∙ ap (drop k) edit.rest ∙ drop-drop k to old ∙ ap (λ i. drop i old) back in
      omega (arith, size-cut Utf16 old n, size-cut Utf16 new m, ap (size Utf16) tails)

  pub marks-moved : (ms : List ℕ) → ms ≡ index_entries old → AreMoved new (length old) (size Utf16 old) to ms
  marks-moved ms all k after below =
      let long = length-map-range_with_len (index_entry old) 1 (length old / 64) in
      let entry : get_or ms k 0 ≡ index_entry old (k + 1) = index_entry-at old ms k (k + 1) 0 (all-some old ms all) below (omega arith) in
      omega (arith, entry, moved (64 * (k + 1)) after (omega (arith, below, ap length all, long)))

pub well-at : (vs us : List ℕ) → vs ≡ us → IsWellFormed Utf16 (map (λ u. u) vs) → IsWellFormed Utf16 us
well-at vs us same well = subst (λ ws. IsWellFormed Utf16 ws) same (well-formed vs well)

-- A text whose characters in a range that was found were replaced.
module _ (us new : List ℕ) (well : IsWellFormed Utf16 us) (from to start end count units : ℕ) (found : IsFoundRange Utf16 us from to start end) (edit : Replaces (chars Utf16 us) new from to) (counts : count ≡ length (chars Utf16 us)) (long : units ≡ length us) where
  pub edited : IsEdited new count units from to start end
  edited =
      let cs = chars Utf16 us in
      let last = moved cs new from to found.within edit to (omega arith) found.within in
      let place = offset-IsOffsetOf Utf16 us well to end found.ends in
      record {
        forward = found.forward;
        within = omega (arith, found.within, counts);
        fits = omega (arith, edit.fits, counts);
        starts = offset-IsOffsetOf Utf16 us well from start found.starts ∙ sym (ap (size Utf16) edit.prefix);
        ends = omega (arith, last, place, ap (λ n. offset new (length new + to - n)) counts, long, whole-size us well);
      }

  pub edited-marks : (ms : List ℕ) → ms ≡ index_entries (chars Utf16 us) → AreMoved new count units to ms
  edited-marks ms all = rw (counts, long, sym (whole-size us well)) (marks-moved (chars Utf16 us) new from to found.within edit ms all)
