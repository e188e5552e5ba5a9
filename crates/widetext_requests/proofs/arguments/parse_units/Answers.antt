use Rattle.std.proofs.lemmas.Grind.{common_steps}
use Rattle.std.proofs.Common.{rules, arith, ◌≢◌, codes, subst, sym, ⊎_elim}
use Rattle.std.specs.Str.Iter.{split_has_more, split_text}
use Rattle.std.specs.Str.Pattern.{FindsChar, IsSplitAtFirstMatch}
use Rattle.widetext_requests.specs.Command.{AreUnits}
use Rattle.widetext_requests.proofs.Complete.{next_unit}
use Rattle.widetext_requests.proofs.arguments.parse_units.Goals as goal

pub loop-digits-init : goal.loop-digits-init
loop-digits-init c = record {
  comma = search rules;
  reads = search rules;
  left = λ us are goes. (us, subst (λ bytes. AreUnits bytes us) (search rules) are);
}

pub loop-digits-preserved : goal.loop-digits-preserved
loop-digits-preserved c = record {
  comma = search rules;
  reads = grind (arith, common_steps);
  left = λ us are goes.
      let left = c.loop-digits.invariant.left us are (sym c.in-Some.ensures.steps.0) in
      let cut = subst (λ pattern. IsSplitAtFirstMatch (FindsChar pattern) (split_text c.loop-digits.digits-iterator) c.in-Some.digits.now (split_has_more c.next.new.self) (split_text c.next.new.self)) c.loop-digits.invariant.comma c.in-Some.ensures.steps.1.1 in
      (next_unit _ _ _ _ left.0 cut left.1).others goes;
}

pub returns-in_default-clause-complete : goal.returns-in_default-clause-complete
returns-in_default-clause-complete c = λ us named.
    let no_dash : c.args.word.now ≢ codes "-" = search rules in
    ⊎_elim (λ dash. absurd (no_dash dash.0))
    (λ are.
    let left = c.loop-digits.invariant.left us are (sym c.in-Some.ensures.steps.0) in
    let cut = subst (λ pattern. IsSplitAtFirstMatch (FindsChar pattern) (split_text c.loop-digits.digits-iterator) c.in-Some.digits.now (split_has_more c.next.new.self) (split_text c.next.new.self)) c.loop-digits.invariant.comma c.in-Some.ensures.steps.1.1 in
    let unit = next_unit _ _ _ _ left.0 cut left.1 in
    c.in_default.ensures.complete unit.unit unit.is)
    named
