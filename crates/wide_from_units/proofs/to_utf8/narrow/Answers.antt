use Rattle.std.proofs.Common.{arith, length-set, ℕ}
use Rattle.wide_utf16_to_utf8.proofs.Shuffles.{same-more}
use Rattle.wide_forms.proofs.Tables.{same-lists}
use Rattle.wide_from_units.proofs.to_utf8.narrow.Goals as goal

pub loop-k-preserved : goal.loop-k-preserved
loop-k-preserved c = record {
  long = omega (arith, c.loop-k.invariant.long, length-set {A = ℕ});
  same = same-more c.loop-k.units c.args.block.now c.loop-k.k (omega (arith, c.loop-k.invariant.long)) c.loop-k.invariant.same;
}

pub returns : goal.returns
returns c = same-lists c.loop-k.units c.args.block.now (omega (arith, c.loop-k.invariant.long, c.requires.whole)) (λ k within. c.loop-k.invariant.same k (omega (arith, c.loop-k.invariant.long)))
