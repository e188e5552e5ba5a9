-- Policies as C programs pass them.
use Rattle.std.specs.Prelude.{ℕ, Option, Some, None, ◌==◌, if◌then◌else◌}
use Rattle.wide_forms.specs.declared.policy.Policy.{Policy}
use Rattle.wide_forms.specs.declared.policy.Policy.TheVariants.{Each, Run, Skip}

-- The policy with a number.
abbrev pub policy_of : ℕ → Option Policy
policy_of n = if n == 0 then Some Each else if n == 1 then Some Run else if n == 2 then Some Skip else None
