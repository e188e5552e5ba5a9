-- The steps that contracts count.
use Rattle.std.specs.Prelude.{ℕ, ◌+◌, ◌≤◌}
use Rattle.wide_steps.specs.declared.counting.Steps.{Steps}

-- The number of steps, without an upper bound.
abbrev pub counted : Steps → ℕ
counted steps = steps.count

-- No steps were removed, and at most `most` were added.
abbrev pub AddsAtMost : Steps → Steps → ℕ → Type 0
AddsAtMost before after most = (counted before ≤ counted after) × (counted after ≤ counted before + most)
