use Rattle.std.proofs.Common.{◌≡◌, ◌++◌, refl, ap, ◌∙◌, arith, length, map}
use Rattle.std.proofs.lemmas.List.{length-map}
use Rattle.std.proofs.lemmas.List.Concat.{flat_map-append}
use Rattle.wide_forms.specs.Items.{chars, items}
use Rattle.wide_forms.specs.Lossy.{lossy_after}
use Rattle.wide_forms.specs.Utf8.{utf8, utf8_bytes}
use Rattle.widestring_c.proofs.Buffers.{after_more, counted_end, is_none, next_part, nothing_yet, written_end}
use Rattle.widestring_c.proofs.Chunks.{lossy_units_end}
use Rattle.widestring_c.proofs.to_utf8.put_lossy_after.Goals as goal

pub prefixes-init : goal.prefixes-init
prefixes-init g c = record {
  so_far = nothing_yet c.args.text.now c.args.at (utf8 (lossy_after c.args.policy c.args.after_fault (items g.C.Unit.form (map g.C.Unit.number c.args.units.now)))) (omega arith);
  space = refl;
  beyond = refl;
  spare = c.requires.spare;
  chunk = c.requires.chunk;
}

pub prefixes-preserved : goal.prefixes-preserved
prefixes-preserved g c =
    let form = g.C.Unit.form in
    let number = g.C.Unit.number in
    let prefix = c.lossy_prefix-prefix.result in
    let put = c.put_chunks-at in
    let old = c.prefixes in
    let here = chars form (map number prefix.text.now) in
    let rest = lossy_after c.args.policy prefix.after_fault (items form (map number prefix.rest.now)) in
    let text = utf8 (lossy_after c.args.policy old.is_after (items form (map number old.rest.now))) in
    let parts : text ≡ utf8 here ++ utf8 rest = ap utf8 c.lossy_prefix-prefix.ensures.text ∙ flat_map-append utf8_bytes here rest in
    record {
      so_far = next_part c.args.text.now c.args.at _ old.text put.new.text (utf8 here) (utf8 rest) old.at put.result text parts old.invariant.so_far put.ensures.offset put.ensures.text put.ensures.space;
      space = put.ensures.space ∙ old.invariant.space;
      beyond = after_more c.args.text.now old.text put.new.text (length (utf8 here)) old.at put.result old.invariant.so_far.most put.ensures.offset old.invariant.beyond put.ensures.beyond;
      spare = omega (arith, old.invariant.spare, c.lossy_prefix-prefix.auto.spare);
      chunk = omega (arith, old.invariant.chunk, put.auto.chunk);
    }

pub returns-clause-offset : goal.returns-clause-offset
returns-clause-offset g c =
    let us = map g.C.Unit.number c.prefixes.rest.now in
    let none : length us ≡ 0 = length-map c.prefixes.rest.now g.C.Unit.number ∙ is_none (length c.prefixes.rest.now) c.is_empty.result c.is_empty.ensures c.prefixes-test.false in
    counted_end c.args.text.now c.args.at _ c.prefixes.text _ c.prefixes.at (lossy_units_end g.C.Unit.form c.args.policy c.prefixes.is_after us none) c.prefixes.invariant.so_far

pub returns-clause-text : goal.returns-clause-text
returns-clause-text g c = λ fits.
    let us = map g.C.Unit.number c.prefixes.rest.now in
    let none : length us ≡ 0 = length-map c.prefixes.rest.now g.C.Unit.number ∙ is_none (length c.prefixes.rest.now) c.is_empty.result c.is_empty.ensures c.prefixes-test.false in
    written_end c.args.text.now c.args.at _ c.prefixes.text _ c.prefixes.at (lossy_units_end g.C.Unit.form c.args.policy c.prefixes.is_after us none) c.prefixes.invariant.so_far (omega (arith, fits, c.prefixes.invariant.space))
