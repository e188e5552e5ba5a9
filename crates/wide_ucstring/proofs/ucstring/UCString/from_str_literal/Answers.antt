use Rattle.std.proofs.Common.{map, ap, ◌∙◌}
use Rattle.wide_ucstr.specs.CString.{contents}
use Rattle.wide_ucstring.proofs.Ends.{ok_gives, text_read_back}
use Rattle.wide_ucstring.proofs.ucstring.UCString.from_str_literal.Goals as goal

pub returns-in-None-clause-read_back : goal.returns-in-None-clause-read_back
returns-in-None-clause-read_back g c =
    let number = g.C.Unit.number in
    ok_gives c.end.result
    (λ s units. text_read_back g.C.Unit.form c.args.text.now (map number (contents s.units)) c.utf8.text (ap (map number) units ∙ c.in_ok-units.ensures.units))
    c.end.ensures.units
