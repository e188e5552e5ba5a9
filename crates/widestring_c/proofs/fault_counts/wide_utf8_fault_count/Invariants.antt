use Rattle.std.proofs.Common.{◌≡◌, ◌+◌, ◌≤◌, length}
use Rattle.wide_conversions.specs.Utf8Items.{utf8_items}
use Rattle.wide_convert.specs.Texts.{faults_in}
use Rattle.widestring_c.proofs.fault_counts.wide_utf8_fault_count.Given as goal

abbrev pub invariant-faults : goal.invariant-faults
invariant-faults l = record {
  counted : l.count + faults_in (utf8_items l.rest) ≡ faults_in (utf8_items l.text);
  few : l.count + length l.rest ≤ length l.text;
}

abbrev pub decreases-faults : goal.decreases-faults
decreases-faults l = length l.rest
