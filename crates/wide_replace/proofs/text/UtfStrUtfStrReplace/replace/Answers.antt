use Rattle.std.proofs.Common.{arith, ◌∙◌}
use Rattle.std.proofs.lemmas.List.{length-map}
use Rattle.wide_utfstr.specs.View.{units_seen}
use Rattle.wide_replace.proofs.Joined.{all_replaced, if_ok}
use Rattle.wide_replace.proofs.text.UtfStrUtfStrReplace.replace.Goals as goal

pub returns-clause-units : goal.returns-clause-units
returns-clause-units g c =
    if_ok c.replacen.result (λ s made. made ∙ all_replaced _ _ _ c.len.result (omega (arith, c.len.ensures, length-map (units_seen c.args.self) g.C.Unit.number))) c.replacen.ensures.units

pub returns-clause-succeeds : goal.returns-clause-succeeds
returns-clause-succeeds g c = λ empty.
    c.replacen.ensures.succeeds (all_replaced _ _ _ c.len.result (omega (arith, c.len.ensures, length-map (units_seen c.args.self) g.C.Unit.number)) ∙ empty)
