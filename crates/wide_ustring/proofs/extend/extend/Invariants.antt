use Rattle.std.proofs.Common.{◌≡◌, ◌≤◌, ◌++◌}
use Rattle.std.specs.List.{flat_map}
use Rattle.wide_ustring.proofs.extend.extend.Given as goal

abbrev pub invariant-loop-piece : goal.invariant-loop-piece
invariant-loop-piece g l = record {
  added : (g.S.Growing.seen l.string).units ≡ (g.S.Growing.seen l.initial.string).units ++ flat_map g.P.Appendable.text l.yielded;
  space : (g.S.Growing.seen l.initial.string).capacity ≤ (g.S.Growing.seen l.string).capacity;
}
