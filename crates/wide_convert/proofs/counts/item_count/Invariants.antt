use Rattle.std.proofs.Common.{◌≡◌, length, ◌+◌, ◌≤◌}
use Rattle.wide_forms.specs.EncodingForm.{Utf16}
use Rattle.wide_forms.specs.Items.{items}
use Rattle.wide_convert.proofs.counts.item_count.Given as goal

-- The items that were counted and those that are left are all items. Each has a unit at least.
abbrev pub invariant-loop-item : goal.invariant-loop-item
invariant-loop-item l = record {
  counted : l.count + length (items Utf16 l.rest) ≡ length (items Utf16 l.units);
  few : l.count + length l.rest ≤ length l.units;
}

abbrev pub decreases-loop-item : goal.decreases-loop-item
decreases-loop-item l = length l.rest
