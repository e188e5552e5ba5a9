use Rattle.std.proofs.Common.{◌≡◌, ◌+◌, ◌-◌, ap, sym, ◌∙◌, refl, arith, subst}
use Rattle.std.proofs.lemmas.List.{map-id}
use Rattle.wide_forms.specs.EncodingForm.{Utf16}
use Rattle.wide_forms.specs.Items.{chars}
use Rattle.wide_forms.specs.Offsets.{IsCharBoundary}
use Rattle.wide_utfstr.specs.View.{units_seen}
use Rattle.wide_offset_index.specs.Marks.{offset}
use Rattle.wide_offset_index.proofs.Marking.{well-formed}
use Rattle.wide_offset_index.proofs.Neighbors.{apart, previous-near, previous-far}
use Rattle.wide_offset_index.proofs.passing.len_before.Goals as goal

pub overflow_sub-at : goal.overflow_sub-at
overflow_sub-at c =
    let cs = chars Utf16 (units_seen c.args.text) in
    omega (arith, c.requires.at, (apart cs 0 c.args._index (omega arith) c.requires.within).least, c.requires.some)

pub returns-then-is_char_boundary : goal.returns-then-is_char_boundary
returns-then-is_char_boundary c =
    let us = units_seen c.args.text in
    let next : c.args._index ≡ c.args._index - 1 + 1 = omega (arith, c.requires.some) in
    let here = c.if-is_char_boundary.ensures.char_boundary.0 refl in
    previous-near us (well-formed us c.args.text.well_formed) (c.args._index - 1) (omega (arith, c.requires.some, c.requires.within)) c.args.at (c.requires.at ∙ ap (offset (chars Utf16 us)) next)
    (subst (λ vs. IsCharBoundary Utf16 vs (c.args.at - 1)) (map-id us) here)

pub returns : goal.returns
returns c =
    let us = units_seen c.args.text in
    let next : c.args._index ≡ c.args._index - 1 + 1 = omega (arith, c.requires.some) in
    previous-far us (well-formed us c.args.text.well_formed) (c.args._index - 1) (omega (arith, c.requires.some, c.requires.within)) c.args.at (c.requires.at ∙ ap (offset (chars Utf16 us)) next)
    (λ before. let e = c.if-is_char_boundary.ensures.char_boundary.1 (subst (λ vs. IsCharBoundary Utf16 vs (c.args.at - 1)) (sym (map-id us)) before) in absurd cc)
