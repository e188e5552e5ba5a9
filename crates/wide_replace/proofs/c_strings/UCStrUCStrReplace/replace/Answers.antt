use Rattle.std.proofs.Common.{map, ap, ◌∙◌}
use Rattle.wide_search.specs.Cut.{substrings}
use Rattle.wide_search.specs.Substrings.{joined_with}
use Rattle.wide_ustr.specs.View.{units_seen}
use Rattle.wide_ucstr.specs.CString.{contents}
use Rattle.wide_ucstr.specs.View.{contents_seen}
use Rattle.wide_ucstring.proofs.Replaced.{made-c_string, made-contents, joined-alike}
use Rattle.wide_replace.proofs.Joined.{if_ok}
use Rattle.wide_replace.proofs.c_strings.UCStrUCStrReplace.replace.Goals as goal

pub c_string_of-requires : goal.c_string_of-requires
c_string_of-requires g c =
    let number = g.C.Unit.number in
    let needle = map number (units_seen c.as_ustr.result) in
    let with = map number (units_seen c.as_ustr-2.result) in
    let old = units_seen c.as_ustr_with_nul-units.result in
    made-c_string number (joined_with with) needle old c.in_ok-replace.field-0.units c.as_ustr.ensures.no_nul c.as_ustr_with_nul-units.ensures.c_string
    (joined-alike number with needle old c.as_ustr-2.ensures.no_nul c.as_ustr.ensures.no_nul c.as_ustr_with_nul-units.ensures.c_string) c.in_ok-replace.ensures.units

pub returns : goal.returns
returns g c =
    let number = g.C.Unit.number in
    let needle = map number (units_seen c.as_ustr.result) in
    let with = map number (units_seen c.as_ustr-2.result) in
    let old = units_seen c.as_ustr_with_nul-units.result in
    record {
      contents = if_ok c.c_string_of.result (λ s same.
          made-contents number (joined_with with) needle old s.units c.as_ustr.ensures.no_nul c.as_ustr_with_nul-units.ensures.c_string
          (joined-alike number with needle old c.as_ustr-2.ensures.no_nul c.as_ustr.ensures.no_nul c.as_ustr_with_nul-units.ensures.c_string) (same ∙ c.in_ok-replace.ensures.units)
          ∙ ap (λ us. joined_with (map number us) (substrings needle (map number (contents old)))) c.as_ustr-2.ensures.units
          ∙ ap (λ us. joined_with (map number (contents_seen c.args.with)) (substrings (map number us) (map number (contents old)))) c.as_ustr.ensures.units
          ∙ ap (λ us. joined_with (map number (contents_seen c.args.with)) (substrings (map number (contents_seen c.args.needle)) (map number (contents us)))) c.as_ustr_with_nul-units.ensures.units) c.c_string_of.ensures;
    }
