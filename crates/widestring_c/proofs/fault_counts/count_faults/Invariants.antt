use Rattle.std.proofs.Common.{◌≡◌, ◌+◌, ◌≤◌, length, map}
use Rattle.wide_forms.specs.Items.{items}
use Rattle.wide_convert.specs.Texts.{faults_in}
use Rattle.widestring_c.proofs.fault_counts.count_faults.Given as goal

abbrev pub invariant-faults : goal.invariant-faults
invariant-faults g l = record {
  counted : l.count + faults_in (items g.C.Unit.form (map g.C.Unit.number l.rest)) ≡ faults_in (items g.C.Unit.form (map g.C.Unit.number l.units));
  few : l.count + length l.rest ≤ length l.units;
}

abbrev pub decreases-faults : goal.decreases-faults
decreases-faults g l = length l.rest
