use Rattle.std.proofs.Common.{arith}
use Rattle.std.proofs.lemmas.Grind.{common_steps}
use Rattle.wide_ustr.specs.View.{units_seen}
use Rattle.wide_ucstring.proofs.Repeated.{no_nul_repeat}
use Rattle.wide_ucstring.proofs.view.UCStrUCStrInUcstring.repeat.Goals as goal

pub end-requires : goal.end-requires
end-requires g c = rw (c.into_vec.ensures.units, c.in_ok-string.ensures) (no_nul_repeat g.C.Unit.number c.args.count (units_seen c.as_ustr.result) c.as_ustr.ensures.no_nul)

pub returns-in-Ok : goal.returns-in-Ok
returns-in-Ok g c = grind (arith, common_steps)
