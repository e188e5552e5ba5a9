use Rattle.std.proofs.Common.{◌+◌, ◌-◌, ◌*◌, arith}
use Rattle.wide_forms.specs.EncodingForm.{Utf16}
use Rattle.wide_forms.specs.Items.{chars}
use Rattle.wide_utfstr.specs.View.{units_seen}
use Rattle.wide_offset_index.proofs.Passes.{passed-between}
use Rattle.wide_offset_index.proofs.shifting.moved_entry.Goals as goal

pub returns-then-count-total-clause-passes : goal.returns-then-count-total-clause-passes
returns-then-count-total-clause-passes c =
    let n = c.args.number in
    let index = c.known_from-known.ensures.index c.requires.within in
    record {
      more = λ _. passed-between (chars Utf16 (units_seen c.args.text)) _ _ _ (64 * n) _ (c.args.total + 64 * (n + 1) - c.args.count) _ (omega arith) (omega (arith, index)) c.between.ensures.passes;
      fewer = λ less _. absurd (omega (arith, less, c.if-count-total.true));
      last = λ less _. absurd (omega (arith, less, c.if-count-total.true));
    }

pub returns-clause-passes : goal.returns-clause-passes
returns-clause-passes c =
    let cs = chars Utf16 (units_seen c.args.text) in
    let n = c.args.number in
    let first = c.args.total + 64 * (n + 1) - c.args.count in
    let index = c.known_from-known.ensures.index c.requires.within in
    record {
      more = λ le. absurd (omega (arith, le, c.if-count-total.false));
      fewer = λ _ below. passed-between cs _ _ _ first _ (c.args.total + 64 * (n + 2) - c.args.count) _ (omega (arith, index)) (omega (arith, c.known_from-next.ensures.index below)) c.between-2.ensures.passes;
      last = λ _ past. passed-between cs _ _ _ first _ c.args.total _ (omega (arith, index)) (c.known_from-next.ensures.end past) c.between-2.ensures.passes;
    }
