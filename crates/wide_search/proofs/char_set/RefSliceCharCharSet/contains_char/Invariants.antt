use Rattle.std.proofs.Common.{◌≡◌, length}
use Rattle.wide_search.specs.Sets.{is_among}
use Rattle.wide_search.proofs.char_set.RefSliceCharCharSet.contains_char.Given as goal

abbrev pub invariant-loop-left : goal.invariant-loop-left
invariant-loop-left l = is_among l.left l.c ≡ is_among l.self l.c

abbrev pub decreases-loop-left : goal.decreases-loop-left
decreases-loop-left l = length l.left
