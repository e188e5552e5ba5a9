use Rattle.std.proofs.Common.{◌/◌, ap, sym, ◌∙◌, arith, length}
use Rattle.std.proofs.lemmas.List.FromFn.{length-map-range_with_len}
use Rattle.wide_forms.specs.EncodingForm.{Utf16}
use Rattle.wide_forms.specs.Items.{chars}
use Rattle.wide_utfstr.specs.View.{units_seen}
use Rattle.wide_offset_index.specs.Marks.{index_entry}
use Rattle.wide_offset_index.proofs.Marking.{next_char, well-formed, whole-size, few-characters, none-left}
use Rattle.wide_offset_index.proofs.marks.count_from.Goals as goal

pub overflow_mul-count : goal.overflow_mul-count
overflow_mul-count c =
    let us = units_seen c.args.text in
    let cs = chars Utf16 us in
    omega (arith, c.len-units.ensures, few-characters Utf16 cs, whole-size us (well-formed us c.args.text.well_formed), ap length c.requires, length-map-range_with_len (index_entry cs) 1 (length cs / 64))

pub overflow_add-count : goal.overflow_add-count
overflow_add-count c =
    let us = units_seen c.args.text in
    let cs = chars Utf16 us in
    let goes = next_char cs c.loop-c.count c.in-Some.c _ (sym c.loop-c.invariant.rest ∙ c.in-Some.ensures.steps) in
    omega (arith, goes.below, c.len-units.ensures, few-characters Utf16 cs, whole-size us (well-formed us c.args.text.well_formed))

pub loop-c-init : goal.loop-c-init
loop-c-init c =
    let cs = chars Utf16 (units_seen c.args.text) in
    record {
      rest = c.seek-at.ensures.rest;
      within = omega (arith, ap length c.requires, length-map-range_with_len (index_entry cs) 1 (length cs / 64));
      grows = omega arith;
      steps = omega arith;
    }

pub loop-c-preserved : goal.loop-c-preserved
loop-c-preserved c =
    let i = c.loop-c.invariant in
    let goes = next_char (chars Utf16 (units_seen c.args.text)) c.loop-c.count c.in-Some.c _ (sym i.rest ∙ c.in-Some.ensures.steps) in
    record {
      rest = goes.left;
      within = omega (arith, goes.below);
      grows = omega (arith, i.grows, c.tick.ensures);
      steps = omega (arith, i.steps, c.tick.ensures, c.char_len.ensures.bound);
    }

pub returns-clause-count : goal.returns-clause-count
returns-clause-count c =
    let us = units_seen c.args.text in
    let i = c.loop-c.invariant in
    omega (arith, i.within, none-left us (well-formed us c.args.text.well_formed) c.loop-c.count (sym i.rest ∙ c.in_default.ensures.steps.0))

pub returns-clause-steps : goal.returns-clause-steps
returns-clause-steps c =
    let cs = chars Utf16 (units_seen c.args.text) in
    let i = c.loop-c.invariant in
    omega (arith, i.steps, i.within, ap length c.requires, length-map-range_with_len (index_entry cs) 1 (length cs / 64))
