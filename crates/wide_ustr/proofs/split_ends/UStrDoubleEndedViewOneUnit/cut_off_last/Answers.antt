use Rattle.std.proofs.Common.{◌∷◌, [], map, arith}
use Rattle.wide_search.specs.Laws.Cuts.{substrings-nowhere}
use Rattle.wide_search.specs.Laws.Numbers.{last-numbers}
use Rattle.wide_ustr.specs.View.{units_seen}
use Rattle.wide_ustr.proofs.BothEnds.{one-apart, substrings-last}
use Rattle.wide_ustr.proofs.Mirrored.{last-split}
use Rattle.wide_ustr.proofs.split_ends.UStrDoubleEndedViewOneUnit.cut_off_last.Goals as goal

pub returns-in_default-clause-none : goal.returns-in_default-clause-none
returns-in_default-clause-none g c = substrings-nowhere g.C.Unit.number g.met.C.Unit.same (c.args.separator.unit ∷ []) (units_seen c.args.self) c.in_default.ensures.none

pub returns-clause-some : goal.returns-clause-some
returns-clause-some g c =
    let number = g.C.Unit.number in
    let needle = number c.args.separator.unit ∷ [] in
    let us = units_seen c.args.self in
    let rest = units_seen c.split_at.result.0 in
    let substring = units_seen c.split_at-2.result.1 in
    let last = last-numbers number g.met.C.Unit.same (c.args.separator.unit ∷ []) us c.in-Some.at c.in-Some.ensures.last in
    let split = last-split number needle us rest substring c.in-Some.at 1 (omega arith) last c.split_at.ensures.prefix c.split_at-2.ensures.back in
    substrings-last needle (map number us) (map number rest) (map number substring) (one-apart (number c.args.separator.unit)) (omega arith) split
