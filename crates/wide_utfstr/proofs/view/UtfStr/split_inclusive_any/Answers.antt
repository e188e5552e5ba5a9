use Rattle.std.proofs.Common.{ap, arith, length, map, ◌*◌, ◌∙◌}
use Rattle.wide_forms.specs.UnitBytes.{unit_width}
use Rattle.wide_ustr.specs.Kept.{joined, substrings_ended}
use Rattle.wide_ustr.specs.KeptLaws.{ended-whole}
use Rattle.wide_utfstr.specs.View.{units_seen}
use Rattle.wide_ustr.proofs.KeptCuts.{ended-most, joined-terminated}
use Rattle.wide_ustr.proofs.SubstringCounts.{few_units, terminated-length}
use Rattle.wide_utfstr.proofs.view.UtfStr.split_inclusive_any.Goals as goal

pub returns-clause-joined : goal.returns-clause-joined
returns-clause-joined g c =
    let ended = substrings_ended g.C.Unit.form (g.S.CharSet.has c.args.set) (map g.C.Unit.number (units_seen c.args.self)) in
    ap joined c.new.ensures ∙ joined-terminated ended ∙ ended-whole g.C.Unit.form (g.S.CharSet.has c.args.set) (map g.C.Unit.number (units_seen c.args.self))

pub returns-clause-most : goal.returns-clause-most
returns-clause-most g c =
    omega (arith, ap length c.new.ensures, terminated-length (substrings_ended g.C.Unit.form (g.S.CharSet.has c.args.set) (map g.C.Unit.number (units_seen c.args.self))), ended-most g.C.Unit.form g.C.Unit.number (g.S.CharSet.has c.args.set) (units_seen c.args.self))

pub returns-clause-fits : goal.returns-clause-fits
returns-clause-fits g c =
    omega (
      arith,
      ap length c.new.ensures,
      terminated-length (substrings_ended g.C.Unit.form (g.S.CharSet.has c.args.set) (map g.C.Unit.number (units_seen c.args.self))),
      ended-most g.C.Unit.form g.C.Unit.number (g.S.CharSet.has c.args.set) (units_seen c.args.self),
      few_units g.C.Unit.form (length (units_seen c.args.self)) c.byte_len-bytes.result (c.byte_len-bytes.ensures.len ∙ ap (λ us. unit_width g.C.Unit.form * length us) c.as_slice.ensures.units) c.byte_len-bytes.ensures.bound,
    )
