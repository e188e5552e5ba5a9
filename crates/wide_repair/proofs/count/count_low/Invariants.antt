use Rattle.std.proofs.Common.{◌≡◌, ◌*◌, take, count_by}
use Rattle.wide_forms.specs.Searches.{is_low}
use Rattle.wide_repair.proofs.count.count_low.Given as goal

abbrev pub invariant-loop-block : goal.invariant-loop-block
invariant-loop-block l = l.count ≡ count_by is_low (take (l.block-index * 4096) l.units)
