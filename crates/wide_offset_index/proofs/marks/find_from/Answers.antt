use Rattle.std.proofs.Common.{◌≡◌, ◌/◌, ap, sym, ◌∙◌, arith, length, take}
use Rattle.std.proofs.lemmas.List.FromFn.{length-map-range_with_len}
use Rattle.wide_forms.specs.EncodingForm.{Utf16}
use Rattle.wide_forms.specs.Items.{chars}
use Rattle.wide_utfstr.specs.View.{units_seen}
use Rattle.wide_offset_index.specs.Marks.{index_entry}
use Rattle.wide_offset_index.proofs.Lengths.{size}
use Rattle.wide_offset_index.proofs.Marking.{next_char, well-formed, goes-within, none-left, found-at, found-none}
use Rattle.wide_offset_index.proofs.marks.find_from.Goals as goal

pub loop-number-init : goal.loop-number-init
loop-number-init c =
    let cs = chars Utf16 (units_seen c.args.text) in
    record {
      rest = c.seek-at.ensures.rest;
      at = c.seek-at.ensures.at;
      within = omega (arith, c.min-first.ensures, ap length c.requires, length-map-range_with_len (index_entry cs) 1 (length cs / 64));
      grows = omega arith;
      steps = omega arith;
    }

pub returns-in_err-c-clause-found : goal.returns-in_err-c-clause-found
returns-in_err-c-clause-found c =
    let us = units_seen c.args.text in
    let done = none-left us (well-formed us c.args.text.well_formed) c.loop-number.number (sym c.loop-number.invariant.rest ∙ c.in_err-c.ensures.steps.0) in
    found-none us c.args.index c.from_residual.result c.from_residual.ensures (omega (arith, done, c.loop-number-test.true))

pub returns-in_err-c-clause-steps : goal.returns-in_err-c-clause-steps
returns-in_err-c-clause-steps c =
    let cs = chars Utf16 (units_seen c.args.text) in
    let i = c.loop-number.invariant in
    omega (arith, i.steps, i.within, c.loop-number-test.true, c.min-first.ensures, ap length c.requires, length-map-range_with_len (index_entry cs) 1 (length cs / 64))

pub overflow_add-at : goal.overflow_add-at
overflow_add-at c =
    let us = units_seen c.args.text in
    let i = c.loop-number.invariant in
    let goes = next_char (chars Utf16 us) c.loop-number.number c.in_ok-c.c _ (sym i.rest ∙ c.in_ok-c.ensures.steps) in
    omega (arith, c.len-units.ensures, goes-within us (well-formed us c.args.text.well_formed) c.loop-number.number c.in_ok-c.c c.loop-number.at c.char_len-len.result _ goes i.at c.char_len-len.ensures.value)

pub loop-number-preserved : goal.loop-number-preserved
loop-number-preserved c =
    let cs = chars Utf16 (units_seen c.args.text) in
    let i = c.loop-number.invariant in
    let goes = next_char cs c.loop-number.number c.in_ok-c.c _ (sym i.rest ∙ c.in_ok-c.ensures.steps) in
    record {
      rest = goes.left;
      at = omega (arith, goes.at, i.at, c.char_len-len.ensures.value);
      within = omega (arith, goes.below);
      grows = omega (arith, i.grows, c.tick.ensures);
      steps = omega (arith, i.steps, c.tick.ensures, c.char_len-len.ensures.bound);
    }

pub returns-clause-found : goal.returns-clause-found
returns-clause-found c =
    let us = units_seen c.args.text in
    let cs = chars Utf16 us in
    let last : c.loop-number.number ≡ c.args.index = omega (arith, c.loop-number-test.false, c.loop-number.auto.number-end (omega (arith, c.min-first.ensures))) in
    found-at us (well-formed us c.args.text.well_formed) c.args.index c.loop-number.at (omega (arith, last, c.loop-number.invariant.within)) (c.loop-number.invariant.at ∙ ap (λ k. size Utf16 (take k cs)) last)

pub returns-clause-steps : goal.returns-clause-steps
returns-clause-steps c =
    let cs = chars Utf16 (units_seen c.args.text) in
    let i = c.loop-number.invariant in
    let last = c.loop-number.auto.number-end (omega (arith, c.min-first.ensures)) in
    omega (arith, i.steps, i.within, last, c.min-first.ensures, ap length c.requires, length-map-range_with_len (index_entry cs) 1 (length cs / 64))
