use Rattle.std.proofs.Common.{◌≡◌, take, count_by}
use Rattle.wide_forms.specs.Searches.{is_low}
use Rattle.wide_repair.proofs.count.count_low_of.Given as goal

abbrev pub invariant-loop-unit : goal.invariant-loop-unit
invariant-loop-unit l = l.count ≡ count_by is_low (take l.unit-index l.units)
