use Rattle.std.proofs.Common.{map, ap, ◌∙◌}
use Rattle.wide_search.specs.Cut.{substrings}
use Rattle.wide_search.specs.Substrings.{joined_with}
use Rattle.wide_ustr.specs.View.{units_seen}
use Rattle.wide_ucstr.specs.CString.{contents}
use Rattle.wide_ucstr.specs.View.{contents_seen}
use Rattle.wide_ucstring.proofs.Replaced.{made-c_string, made-contents, joined-alike}
use Rattle.wide_ucstring.proofs.ucstring.UCString.replace_with.Goals as goal

pub invariant_of-self : goal.invariant_of-self
invariant_of-self g c =
    let number = g.C.Unit.number in
    let needle = map number (units_seen c.as_ustr.result) in
    let with = map number (units_seen c.as_ustr-2.result) in
    let old = c.self.inside.string.units in
    made-c_string number (joined_with with) needle old c.replace_with.new.self.units c.as_ustr.ensures.no_nul c.self.invariant (joined-alike number with needle old c.as_ustr-2.ensures.no_nul c.as_ustr.ensures.no_nul c.self.invariant) c.replace_with.ensures.units

pub returns-clause-contents : goal.returns-clause-contents
returns-clause-contents g c =
    let number = g.C.Unit.number in
    let needle = map number (units_seen c.as_ustr.result) in
    let with = map number (units_seen c.as_ustr-2.result) in
    let old = c.self.inside.string.units in
    rw (← c.self.view_is)
    (made-contents number (joined_with with) needle old c.replace_with.new.self.units c.as_ustr.ensures.no_nul c.self.invariant (joined-alike number with needle old c.as_ustr-2.ensures.no_nul c.as_ustr.ensures.no_nul c.self.invariant) c.replace_with.ensures.units
    ∙ ap (λ us. joined_with (map number us) (substrings needle (map number (contents old)))) c.as_ustr-2.ensures.units
    ∙ ap (λ us. joined_with (map number (contents_seen c.args.with)) (substrings (map number us) (map number (contents old)))) c.as_ustr.ensures.units)
