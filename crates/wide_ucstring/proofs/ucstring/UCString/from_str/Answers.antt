use Rattle.std.proofs.Common.{map, subst}
use Rattle.wide_ucstr.specs.CString.{contents}
use Rattle.wide_ucstring.specs.Made.{EndsAsGiven}
use Rattle.wide_ucstring.proofs.Ends.{ok_gives, contents_as_given, text_read_back}
use Rattle.wide_ucstring.proofs.ucstring.UCString.from_str.Goals as goal

pub returns-clause-read_back : goal.returns-clause-read_back
returns-clause-read_back g c =
    let number = g.C.Unit.number in
    ok_gives c.from_vec.result
    (λ s made none. text_read_back g.C.Unit.form c.args.text.now (map number (contents s.units)) c.utf8.text
    (contents_as_given number _ s.units (subst (λ us. EndsAsGiven us (map number s.units)) c.in_ok-copy_of_str.ensures.units made) none))
    c.from_vec.ensures.made
