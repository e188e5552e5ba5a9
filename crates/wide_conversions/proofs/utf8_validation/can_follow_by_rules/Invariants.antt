use Rattle.std.proofs.Common.{◌≡◌, ◌+◌, ◌<◌, ℕ, get_or}
use Rattle.wide_conversions.specs.Following.{CanFollow}
use Rattle.wide_conversions.proofs.utf8_validation.can_follow_by_rules.Given as goal

abbrev pub invariant-loop-k : goal.invariant-loop-k
invariant-loop-k l = (j : ℕ) → j < l.k → l.broken ≡ 0 → CanFollow (get_or l.block j 0) (get_or l.block (j + 1) 0) (get_or l.block (j + 2) 0) (get_or l.block (j + 3) 0)
