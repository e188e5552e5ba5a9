use Rattle.std.proofs.Common.{◌≡◌, ◌*◌, ◌-◌, ap, sym, subst, ◌∙◌, arith, map, drop}
use Rattle.std.specs.Prelude.{slice_index_or}
use Rattle.std.proofs.lemmas.List.{map-id}
use Rattle.wide_forms.specs.EncodingForm.{Utf16}
use Rattle.wide_forms.specs.Items.{chars}
use Rattle.wide_forms.specs.Offsets.{IsCharBoundary}
use Rattle.wide_forms.specs.Laws.Offsets.{IsOffsetOf-prefix}
use Rattle.wide_utfstr.specs.View.{units_seen}
use Rattle.wide_offset_index.specs.Marks.{index_entry}
use Rattle.wide_offset_index.proofs.Marking.{index_entry-at, well-formed, char-boundary}
use Rattle.wide_offset_index.proofs.marks.seek.Goals as goal

pub returns-clause-at : goal.returns-clause-at
returns-clause-at c = index_entry-at (chars Utf16 (units_seen c.args.text)) c.args.marks.now (c.args.number - 1) c.args.number 0 c.requires.some (omega (arith, c.requires.within, c.if-number-eq0.false)) (omega (arith, c.if-number-eq0.false))

pub split_at-requires : goal.split_at-requires
split_at-requires c =
    let us = units_seen c.args.text in
    let found = slice_index_or c.args.marks.now (c.args.number - 1) 0 in
    let at : found ≡ index_entry (chars Utf16 us) c.args.number = index_entry-at (chars Utf16 us) c.args.marks.now (c.args.number - 1) c.args.number 0 c.requires.some (omega (arith, c.requires.within, c.if-number-eq0.false)) (omega (arith, c.if-number-eq0.false)) in
    subst (λ vs. IsCharBoundary Utf16 vs found) (sym (map-id us)) (subst (IsCharBoundary Utf16 us) (sym at) (char-boundary us (well-formed us c.args.text.well_formed) (64 * c.args.number)))

pub returns-clause-rest : goal.returns-clause-rest
returns-clause-rest c =
    let us = units_seen c.args.text in
    let found = slice_index_or c.args.marks.now (c.args.number - 1) 0 in
    c.chars-2.ensures.characters ∙ ap (λ vs. chars Utf16 (map (λ u. u) vs)) c.split_at.ensures.back ∙ ap (chars Utf16) (map-id (drop found us)) ∙ ap (λ n. chars Utf16 (drop n us)) (returns-clause-at c)
    ∙ (IsOffsetOf-prefix Utf16 us (well-formed us c.args.text.well_formed) (64 * c.args.number)).rest
