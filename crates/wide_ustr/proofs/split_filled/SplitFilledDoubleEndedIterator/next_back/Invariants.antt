use Rattle.std.proofs.Common.{◌≡◌, length}
use Rattle.wide_ustr.specs.Split.{substrings_left}
use Rattle.wide_ustr.specs.SplitMore.{filled_left}
use Rattle.wide_ustr.proofs.split_filled.SplitFilledDoubleEndedIterator.next_back.Given as goal

abbrev pub invariant-loop-substring : goal.invariant-loop-substring
invariant-loop-substring g l =
    let seen = g.V.SplitView.numbers_seen in
    let cut_at = g.V.SplitView.cut_at in
    filled_left seen cut_at l.self ≡ filled_left seen cut_at l.initial.self

abbrev pub decreases-loop-substring : goal.decreases-loop-substring
decreases-loop-substring g l = length (substrings_left g.V.SplitView.numbers_seen g.V.SplitView.cut_at l.self.all)
