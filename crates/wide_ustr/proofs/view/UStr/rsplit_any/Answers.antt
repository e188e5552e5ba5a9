use Rattle.std.proofs.Common.{ap, arith, length, ◌∙◌}
use Rattle.wide_ustr.specs.View.{units_seen, numbers_seen}
use Rattle.wide_ustr.proofs.KeptCuts.{between_back-most}
use Rattle.wide_ustr.proofs.SetsReversed.{rsplit-reversed}
use Rattle.wide_ustr.proofs.SubstringCounts.{few_units}
use Rattle.wide_ustr.proofs.view.UStr.rsplit_any.Goals as goal

pub returns-clause-reversed : goal.returns-clause-reversed
returns-clause-reversed g c = c.new.ensures ∙ rsplit-reversed g.C.Unit.form (g.S.CharSet.has c.args.set) (numbers_seen g.C.Unit.number c.args.self)

pub returns-clause-most : goal.returns-clause-most
returns-clause-most g c = omega (arith, ap length c.new.ensures, between_back-most g.C.Unit.form g.C.Unit.number (g.S.CharSet.has c.args.set) (units_seen c.args.self))

pub returns-clause-fits : goal.returns-clause-fits
returns-clause-fits g c =
    omega (arith, ap length c.new.ensures, between_back-most g.C.Unit.form g.C.Unit.number (g.S.CharSet.has c.args.set) (units_seen c.args.self), few_units g.C.Unit.form (length (units_seen c.args.self)) c.byte_len-bytes.result c.byte_len-bytes.ensures.len c.byte_len-bytes.ensures.bound)
