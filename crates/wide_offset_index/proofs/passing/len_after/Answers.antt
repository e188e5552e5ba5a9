use Rattle.std.proofs.Common.{◌+◌, sym, refl, arith, subst}
use Rattle.std.proofs.lemmas.List.{map-id}
use Rattle.wide_forms.specs.EncodingForm.{Utf16}
use Rattle.wide_forms.specs.Items.{chars}
use Rattle.wide_forms.specs.Offsets.{IsCharBoundary}
use Rattle.wide_utfstr.specs.View.{units_seen}
use Rattle.wide_offset_index.proofs.Lengths.{size-take}
use Rattle.wide_offset_index.proofs.Marking.{well-formed, whole-size}
use Rattle.wide_offset_index.proofs.Neighbors.{next-near, next-far}
use Rattle.wide_offset_index.proofs.passing.len_after.Goals as goal

pub overflow_add-at : goal.overflow_add-at
overflow_add-at c =
    let us = units_seen c.args.text in
    omega (arith, c.requires.at, c.len-units.ensures, size-take Utf16 (chars Utf16 us) c.args._index, whole-size us (well-formed us c.args.text.well_formed))

pub returns-then-is_char_boundary : goal.returns-then-is_char_boundary
returns-then-is_char_boundary c =
    let us = units_seen c.args.text in
    let here = c.if-is_char_boundary.ensures.char_boundary.0 refl in
    next-near us (well-formed us c.args.text.well_formed) c.args._index c.requires.within c.args.at c.requires.at (subst (λ vs. IsCharBoundary Utf16 vs (c.args.at + 1)) (map-id us) here)

pub returns : goal.returns
returns c =
    let us = units_seen c.args.text in
    next-far us (well-formed us c.args.text.well_formed) c.args._index c.requires.within c.args.at c.requires.at
    (λ next. let e = c.if-is_char_boundary.ensures.char_boundary.1 (subst (λ vs. IsCharBoundary Utf16 vs (c.args.at + 1)) (sym (map-id us)) next) in absurd cc)
