use Rattle.std.proofs.Common.{◌≡◌, ◌≤◌, ◌<◌, ◌-◌, ℕ, get_or, length}
use Rattle.wide_repair.specs.Repaired.{repaired_at}
use Rattle.wide_repair.proofs.repair.repair_whole.Given as goal

abbrev pub invariant-sixteens : goal.invariant-sixteens
invariant-sixteens l = record {
  within : l.done ≤ length l.units;
  space : length l.repaired ≡ length l.units;
  so_far : (k : ℕ) → k < l.done → get_or l.repaired k 0 ≡ repaired_at l.units k;
}

abbrev pub decreases-sixteens : goal.decreases-sixteens
decreases-sixteens l = length l.units - l.done

abbrev pub invariant-units : goal.invariant-units
invariant-units l = record {
  within : l.done ≤ length l.units;
  space : length l.repaired ≡ length l.units;
  so_far : (k : ℕ) → k < l.done → get_or l.repaired k 0 ≡ repaired_at l.units k;
}

abbrev pub decreases-units : goal.decreases-units
decreases-units l = length l.units - l.done
