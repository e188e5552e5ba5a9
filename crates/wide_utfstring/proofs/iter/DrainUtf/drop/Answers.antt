use Rattle.std.proofs.Common.{◌≡◌, [], ◌∙◌, ap, sym, arith, subst, length, map, slice_range}
use Rattle.std.specs.List.{splice}
use Rattle.wide_forms.specs.Items.{IsWellFormed}
use Rattle.wide_utfstring.proofs.Drained.{gone_or_same}
use Rattle.wide_utfstring.proofs.iter.DrainUtf.drop.Goals as goal
use Rattle.wide_utfstring.proofs.iter.DrainUtf.drop.Goals.{then-len-total, else-len-total}

pub remove_part-requires-clause-others : goal.remove_part-requires-clause-others
remove_part-requires-clause-others g c = c.args.self.others (omega (arith, c.len.ensures, c.if-len-total.true))

pub invariant_of-self : goal.invariant_of-self
invariant_of-self g c =
    let d = c.args.self in
    let left = c.if-len-total.string.units in
    let same : length left ≡ d.total → left ≡ d.string.now.units = λ long. elim c.if-len-total.branch [
      | then-len-total w ↦
          gone_or_same d.string.now.units left d.start d.end d.total (omega (arith, c.len.ensures, w.if-len-total.true)) (omega (arith, d.ordered)) (omega (arith, d.ordered))
          (ap (λ s. s.units) w.string-is ∙ w.remove_part.ensures.units) long
      | else-len-total w ↦ ap (λ s. s.units) w.string-is
    ] in
    record {
      ordered = d.ordered;
      part = λ long. subst (λ us. IsWellFormed g.C.Unit.form (map g.C.Unit.number (slice_range us d.front d.back))) (sym (same long)) (d.part (ap length (sym (same long)) ∙ long));
      others = λ long. subst (λ us. IsWellFormed g.C.Unit.form (map g.C.Unit.number (splice us d.start d.end []))) (sym (same long)) (d.others (ap length (sym (same long)) ∙ long));
    }
