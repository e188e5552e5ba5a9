use Rattle.std.proofs.Common.{map, arith, ap, sym, ◌∙◌}
use Rattle.std.proofs.lemmas.List.{length-map}
use Rattle.std.specs.Char.{to_ascii_lowercase}
use Rattle.wide_unit.proofs.Alike.{made-at, same-one_more, alike-at}
use Rattle.wide_unit.proofs.case.common_prefix_ignore_ascii_case.Goals as goal

pub loop-shared-preserved : goal.loop-shared-preserved
loop-shared-preserved g c =
    let number = g.C.Unit.number in
    let k = c.loop-shared.shared in
    let ls = map to_ascii_lowercase (map number c.args.left.now) in
    let rs = map to_ascii_lowercase (map number c.args.right.now) in
    let left = made-at number to_ascii_lowercase c.args.left.now k c.index-left-shared.result (omega arith) c.index-left-shared.is in
    let right = made-at number to_ascii_lowercase c.args.right.now k c.index-right-shared.result (omega arith) c.index-right-shared.is in
    let alike = left ∙ sym (c.ascii_lowercase.ensures ∙ ap to_ascii_lowercase c.code.ensures) ∙ c.if-ascii_lowercase.true ∙ (c.ascii_lowercase-in-loop-shared.ensures ∙ ap to_ascii_lowercase c.code-in-loop-shared.ensures) ∙ sym right in (
      omega arith,
      same-one_more ls rs k (omega (arith, length-map (map number c.args.left.now) to_ascii_lowercase, length-map c.args.left.now number)) (omega (arith, length-map (map number c.args.right.now) to_ascii_lowercase, length-map c.args.right.now number)) c.loop-shared.invariant.1 alike,
    )

pub returns-else-ascii_lowercase : goal.returns-else-ascii_lowercase
returns-else-ascii_lowercase g c =
    let number = g.C.Unit.number in
    let k = c.loop-shared.shared in
    let ls = map to_ascii_lowercase (map number c.args.left.now) in
    let rs = map to_ascii_lowercase (map number c.args.right.now) in
    let left = made-at number to_ascii_lowercase c.args.left.now k c.index-left-shared.result (omega arith) c.index-left-shared.is in
    let right = made-at number to_ascii_lowercase c.args.right.now k c.index-right-shared.result (omega arith) c.index-right-shared.is in
    record {
      left_within = omega (arith, length-map (map number c.args.left.now) to_ascii_lowercase, length-map c.args.left.now number);
      right_within = omega (arith, length-map (map number c.args.right.now) to_ascii_lowercase, length-map c.args.right.now number);
      same = c.loop-shared.invariant.1;
      longest = λ _ _ same. c.if-ascii_lowercase.false
          (c.ascii_lowercase.ensures ∙ ap to_ascii_lowercase c.code.ensures ∙ sym left ∙ alike-at ls rs k same ∙ right ∙ sym (c.ascii_lowercase-in-loop-shared.ensures ∙ ap to_ascii_lowercase c.code-in-loop-shared.ensures));
    }
