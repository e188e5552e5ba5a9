use Rattle.std.proofs.Common.{◌≡◌, Bool, true, false, map, sym, subst, arith}
use Rattle.std.proofs.lemmas.Grind.{common_steps}
use Rattle.wide_forms.specs.Laws.Splices.{IsWellFormed-map_part}
use Rattle.wide_forms.specs.Items.{IsBoundary}
use Rattle.wide_utfstr.proofs.view.UtfStr.get.Goals.{else-is_char_boundary-via-then-is_char_boundary+else-is_char_boundary-2, else-is_char_boundary-via-else-is_char_boundary}
use Rattle.wide_utfstr.proofs.view.UtfStr.get.Goals as goal

pub invariant_of-result : goal.invariant_of-result
invariant_of-result g c = record {
  well_formed = IsWellFormed-map_part g.C.Unit.form g.C.Unit.number c.args.self.units.now c.args.self.well_formed c.in_ok-offsets.offsets.start c.in_ok-offsets.offsets.end
      (c.is_char_boundary.ensures.boundary.0 c.if-is_char_boundary.true) (c.is_char_boundary-then-is_char_boundary.ensures.boundary.0 c.if-is_char_boundary-2.true)
      c.in_ok-offsets.ensures.within.forward;
}

clash : {P : Type 0} (b : Bool) → b ≡ true → b ≡ false → P
clash true p q = absurd cc
clash false p q = absurd cc

pub returns-clause-some : goal.returns-clause-some
returns-clause-some g c = λ bounds. (
  λ e. absurd cc,
  λ part. let form = g.C.Unit.form in
      let us = map g.C.Unit.number c.args.self.units.now in
      let start : IsBoundary form us c.in_ok-offsets.offsets.start = subst (λ n. IsBoundary form us n) (sym (c.in_ok-offsets.ensures.start bounds)) part.start in
      let end : IsBoundary form us c.in_ok-offsets.offsets.end = subst (λ n. IsBoundary form us n) (sym (c.in_ok-offsets.ensures.end bounds)) part.end in
      let first = c.is_char_boundary.ensures.boundary.1 start in
      elim c.else-is_char_boundary.branch [
        | else-is_char_boundary-via-then-is_char_boundary+else-is_char_boundary-2 w ↦ clash _ (w.is_char_boundary-then-is_char_boundary.ensures.boundary.1 end) w.if-is_char_boundary-2.false
        | else-is_char_boundary-via-else-is_char_boundary w ↦ clash _ first w.if-is_char_boundary.false
      ],
)

pub returns-in_err-offsets-clause-some : goal.returns-in_err-offsets-clause-some
returns-in_err-offsets-clause-some g c = grind (arith, common_steps)

pub returns-in_err-offsets-clause-char_range : goal.returns-in_err-offsets-clause-char_range
returns-in_err-offsets-clause-char_range g c = grind (arith, common_steps)
