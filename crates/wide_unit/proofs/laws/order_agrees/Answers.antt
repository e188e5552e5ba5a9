use Rattle.std.proofs.Common.{◌≡◌, subst, Equal}
use Rattle.std.specs.Ordering.{nat_cmp}
use Rattle.std.specs.Cmp.Lexicographic.{slice_cmp}
use Rattle.wide_unit.proofs.Ordered.{lists-equal, same-list}
use Rattle.wide_unit.proofs.laws.order_agrees.Goals as goal

pub returns : goal.returns
returns c us vs = (lists-equal us vs, λ e. subst (λ ws. slice_cmp nat_cmp us ws ≡ Equal) e (same-list us))
