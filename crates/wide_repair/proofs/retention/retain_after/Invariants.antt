use Rattle.std.proofs.Common.{◌≡◌, ◌++◌, ◌-◌, ◌<◌, ◌≤◌, get_or, length, take, drop}
use Rattle.wide_repair.proofs.Retained.{retained}
use Rattle.wide_forms.specs.Bits.{bit_of}
use Rattle.wide_repair.proofs.retention.retain_after.Given as goal

abbrev pub invariant-eights : goal.invariant-eights
invariant-eights l = record {
  some : 0 < l.done;
  within : l.done ≤ length l.units;
  few : l.at ≤ l.done;
  space : length l.compressed ≡ length l.fn.compressed;
  units : retained l.policy 0 (bit_of l.after_fault) l.units l.repaired ≡ take l.at l.compressed ++ retained l.policy (get_or l.units (l.done - 1) 0) (get_or l.repaired (l.done - 1) 0) (drop l.done l.units) (drop l.done l.repaired);
}

abbrev pub decreases-eights : goal.decreases-eights
decreases-eights l = length l.units - l.done

abbrev pub invariant-ones : goal.invariant-ones
invariant-ones l = record {
  some : 0 < l.done;
  within : l.done ≤ length l.units;
  few : l.at ≤ l.done;
  space : length l.compressed ≡ length l.fn.compressed;
  units : retained l.policy 0 (bit_of l.after_fault) l.units l.repaired ≡ take l.at l.compressed ++ retained l.policy (get_or l.units (l.done - 1) 0) (get_or l.repaired (l.done - 1) 0) (drop l.done l.units) (drop l.done l.repaired);
}

abbrev pub decreases-ones : goal.decreases-ones
decreases-ones l = length l.units - l.done
