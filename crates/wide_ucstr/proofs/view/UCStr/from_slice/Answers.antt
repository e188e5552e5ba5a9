use Rattle.std.proofs.Common.{◌≡◌, ◌-◌, ◌∙◌, length, take, sym, arith}
use Rattle.std.proofs.lemmas.List.{length-map, length-take}
use Rattle.wide_ucstr.proofs.Cuts.{ends_in_nul, first_of_whole_of}
use Rattle.wide_ucstr.proofs.view.UCStr.from_slice.Goals as goal

pub returns-in-Some-clause-fault : goal.returns-in-Some-clause-fault
returns-in-Some-clause-fault g c =
    let number = g.C.Unit.number in
    let units = c.args.units.now in
    let prefix = take (length units - 1) units in
    let zero : number c.last-item.result ≡ 0 = sym c.code.ensures ∙ c.if-code-ne0.false in
    rw (c.into-in-Some.ensures, c.new.ensures.position) (
      ends_in_nul number units c.last-item.result c.in-len1-up.len_at_least c.last-item.is zero,
      first_of_whole_of number units (length units - 1) c.in-Some.offset c.in-Some.ensures,
      omega (arith, c.in-Some.ensures.at.0, length-map units number, length-map prefix number, length-take (length units - 1) units),
      c.new.ensures.vec,
    )
