use Rattle.std.proofs.Common.{◌≡◌, ◌∙◌, [], ◌∷◌, ◌++◌, map, take, ap, sym, subst, arith}
use Rattle.std.proofs.lemmas.Grind.{common_steps}
use Rattle.wide_ucstr.proofs.Cuts.{no_nul_in_prefix_of}
use Rattle.wide_ustr.specs.View.{units_seen}
use Rattle.wide_ucstring.specs.Made.{EndsAtFirst}
use Rattle.wide_ucstring.proofs.Ends.{ended_at_first, ok_gives}
use Rattle.wide_ucstring.proofs.ucstring.UCString.from_ustr_truncate.Goals as goal

pub end-requires : goal.end-requires
end-requires g c =
    let prefix : c.in_ok-copy_of_ustr-in-Some.field-0.items ≡ take c.in-Some.offset (units_seen c.args.text) = c.in_ok-copy_of_ustr-in-Some.ensures.units ∙ c.slice.ensures ∙ ap (λ n. take n (units_seen c.args.text)) (omega arith) in
    rw prefix (no_nul_in_prefix_of g.C.Unit.number (units_seen c.args.text) c.in-Some.offset (rw c.as_slice.ensures at c.in-Some.ensures.before))

pub returns-in_ok-copy_of_ustr-in-Some-clause-made : goal.returns-in_ok-copy_of_ustr-in-Some-clause-made
returns-in_ok-copy_of_ustr-in-Some-clause-made g c =
    let prefix : c.in_ok-copy_of_ustr-in-Some.field-0.items ≡ take c.in-Some.offset (units_seen c.args.text) = c.in_ok-copy_of_ustr-in-Some.ensures.units ∙ c.slice.ensures ∙ ap (λ n. take n (units_seen c.args.text)) (omega arith) in
    let number = g.C.Unit.number in
    let units = units_seen c.args.text in
    ok_gives c.end.result (λ s made. subst (EndsAtFirst (map number units)) (sym (made ∙ ap (λ xs. map number xs ++ 0 ∷ []) prefix)) (ended_at_first number units c.in-Some.offset (rw c.as_slice.ensures at c.in-Some.ensures))) c.end.ensures.made

pub slice-requires-clause-in_range : goal.slice-requires-clause-in_range
slice-requires-clause-in_range g c = grind (arith, common_steps)
