use Rattle.std.proofs.Common.{◌-◌, ◌<◌, ◌≤◌, ℕ}
use Rattle.wide_search.specs.Occurrences.{OccursAt}
use Rattle.wide_search.proofs.blocks.passed_by_blocks.Given as goal

-- The needle occurs at none of the offsets before `at`.
abbrev pub invariant-loop-at : goal.invariant-loop-at
invariant-loop-at g l = record {
  within : l.at ≤ l.end;
  before : (k : ℕ) → k < l.at → ¬ (OccursAt l.needle l.units k);
}

abbrev pub decreases-loop-at : goal.decreases-loop-at
decreases-loop-at g l = l.end - l.at
