-- What an edit leaves of an offset index, and which units are read.
use Rattle.std.proofs.Common.{◌≡◌, ℕ, ◌-◌, ◌/◌, ◌≤◌, List, sym, ◌∙◌, ap, arith, length, take, map, subst}
use Rattle.std.proofs.lemmas.List.FromFn.{length-map-range_with_len}
use Rattle.wide_forms.specs.EncodingForm.{Utf16}
use Rattle.wide_forms.specs.Items.{chars, IsWellFormed}
use Rattle.wide_offset_index.specs.Found.{IsFoundRange}
use Rattle.wide_edit.specs.Step.{step}
use Rattle.wide_offset_index.specs.Marks.{index_entry, index_entries, IsEdited, AreMoved}
use Rattle.wide_editable.specs.Marked.{first_changed}
use Rattle.wide_editable.specs.Replaced.{Replaces}
use Rattle.wide_edit.specs.declared.edits.Edit.{Edit}
use Rattle.wide_offset_index.proofs.Lengths.{size}
use Rattle.wide_offset_index.proofs.Marking.{well-formed, whole-size, same-marks}
use Rattle.wide_editable.proofs.Kept.{offset-within, step-keeps}
use Rattle.wide_editable.proofs.Replaced.{edited, edited-marks}

-- A text of the units `us` with the entries `ms`. A view of it has the units `seen`.
module _ (us seen ms : List ℕ) (same : seen ≡ us) (marks : ms ≡ index_entries (chars Utf16 us)) (count : ℕ) (counts : count ≡ length (chars Utf16 seen)) where
  abbrev cs : List ℕ
  cs = chars Utf16 us

  here : count ≡ length cs
  here = counts ∙ ap (λ vs. length (chars Utf16 vs)) same

  pub marks-long : length ms ≡ count / 64
  marks-long = ap length marks ∙ length-map-range_with_len (index_entry cs) 1 (length cs / 64) ∙ ap (λ n. n / 64) (sym here)

  module _ (edit : Edit) (first : ℕ) (begins : first ≡ first_changed count edit) where
    pub unchanged-within : first / 64 ≤ length ms
    unchanged-within = omega (arith, begins, offset-within count edit, marks-long)

    begins-here : first ≡ first_changed (length cs) edit
    begins-here = begins ∙ ap (λ n. first_changed n edit) here

    -- The units after the last entry that is retained, before the edit.
    pub read-before : (view : List ℕ) → view ≡ us → (more : ℕ) → more ≡ size Utf16 (chars Utf16 view) - index_entry (chars Utf16 view) (first / 64) → more ≡ size Utf16 cs - index_entry cs (first_changed (length cs) edit / 64)
    read-before view e more reads = reads ∙ ap (λ vs. size Utf16 (chars Utf16 vs) - index_entry (chars Utf16 vs) (first / 64)) e ∙ ap (λ k. size Utf16 cs - index_entry cs (k / 64)) begins-here

    -- The edit was made, and a view of the new text has the units `last`.
    module _ (new last : List ℕ) (same-new : last ≡ new) where
      pub read-after : IsWellFormed Utf16 (map (λ u. u) last) → size Utf16 (chars Utf16 new) ≡ length last
      read-after well = ap (λ vs. size Utf16 (chars Utf16 vs)) (sym same-new) ∙ whole-size last (well-formed last well)

      pub marked-after : index_entry (chars Utf16 last) (first / 64) ≡ index_entry (chars Utf16 new) (first_changed (length cs) edit / 64)
      marked-after = ap (λ vs. index_entry (chars Utf16 vs) (first / 64)) same-new ∙ ap (λ k. index_entry (chars Utf16 new) (k / 64)) begins-here

      module _ (made : chars Utf16 new ≡ (step cs edit).0) where
        -- The entries that are retained are those of the new text.
        pub unchanged-same : take (first / 64) ms ≡ take (first / 64) (index_entries (chars Utf16 last))
        unchanged-same =
            let p = first_changed (length cs) edit in
            let unchanged : take p (chars Utf16 new) ≡ take p cs = ap (take p) made ∙ step-keeps cs edit in
            ap (take (first / 64)) marks ∙ same-marks cs (chars Utf16 new) p (offset-within (length cs) edit) unchanged (first / 64) (omega (arith, begins-here))
            ∙ ap (λ vs. take (first / 64) (index_entries (chars Utf16 vs))) (sym same-new)

        -- The edit replaced a range that was found.
        module _ (from to start stop units : ℕ) (long : units ≡ length us) (found : IsFoundRange Utf16 us from to start stop) (replaces : Replaces cs (step cs edit).0 from to) where
          replaced : Replaces cs (chars Utf16 last) from to
          replaced = subst (λ l. Replaces cs l from to) (sym (ap (chars Utf16) same-new ∙ made)) replaces

          pub range-same : take (from / 64) ms ≡ take (from / 64) (index_entries (chars Utf16 last))
          range-same =
              ap (take (from / 64)) marks ∙ same-marks cs (chars Utf16 last) from (omega (arith, found.forward, found.within)) replaced.prefix (from / 64) (omega arith)

          module _ (well : IsWellFormed Utf16 (map (λ u. u) seen)) where
            fine : IsWellFormed Utf16 us
            fine = subst (IsWellFormed Utf16) same (well-formed seen well)

            pub range-edited : IsEdited (chars Utf16 last) count units from to start stop
            range-edited = edited us (chars Utf16 last) fine from to start stop count units found replaced here long

            pub range-moved : AreMoved (chars Utf16 last) count units to ms
            range-moved = edited-marks us (chars Utf16 last) fine from to start stop count units found replaced here long ms marks
