use Rattle.std.proofs.Common.{ap, ◌∙◌, ◌++◌, arith, get_or, take}
use Rattle.std.proofs.lemmas.List.{take_all}
use Rattle.wide_forms.specs.Utf8.{utf8}
use Rattle.wide_from_units.proofs.ScalarTexts.{scalar-below, scalar-len, scalar-stored, text-none, text-one_more}
use Rattle.wide_from_units.proofs.to_utf8.put_scalars.Goals as goal

pub loop-k-init : goal.loop-k-init
loop-k-init c = record { space = omega arith; text = text-none (take c.args.at c.args.out.now) c.args.block.now }

pub loop-k-preserved : goal.loop-k-preserved
loop-k-preserved c =
    let block = c.args.block.now in
    let k = c.loop-k.k in
    let word = c.lanes_of.ensures.words k (omega arith) in
    let len = c.lanes_of.ensures.lens k (omega arith) in
    record {
      space = omega (arith, scalar-len len, c.loop-k.invariant.space);
      text = text-one_more block _ k (omega (arith, c.requires.whole)) c.loop-k.invariant.text
          (scalar-stored c.loop-k.out c.put_u32_le.new.out c.loop-k.written (get_or block k 0) _ _ (omega (arith, c.loop-k.invariant.space, c.requires.space)) (scalar-below block k c.requires.scalars (omega (arith, c.requires.whole))) word len c.put_u32_le.ensures);
    }

pub returns-clause-text : goal.returns-clause-text
returns-clause-text c = c.loop-k.invariant.text ∙ ap (λ cs. take c.args.at c.args.out.now ++ utf8 cs) (take_all c.loop-k.k c.args.block.now (omega (arith, c.requires.whole)))
