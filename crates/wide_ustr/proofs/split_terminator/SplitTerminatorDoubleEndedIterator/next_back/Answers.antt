use Rattle.std.specs.Prelude.{◌≡◌, ◌++◌, ◌∷◌, []}
use Rattle.wide_ustr.specs.Split.{substrings_left}
use Rattle.wide_ustr.specs.SplitMore.{terminated_left}
use Rattle.wide_ustr.proofs.BothEnds.{last-of_same, progress-last, terminated-skipped, terminated-taken}
use Rattle.wide_ustr.proofs.split_terminator.SplitTerminatorDoubleEndedIterator.next_back.Goals as goal

pub returns-then-was_taken-has_no_units-clause-steps : goal.returns-then-was_taken-has_no_units-clause-steps
returns-then-was_taken-has_no_units-clause-steps g c =
    let seen = g.V.SplitView.numbers_seen in
    let left = substrings_left seen g.V.SplitView.cut_at in
    terminated-taken c.args.self.now.last_taken c.has_no_units.result (left c.args.self.now.all) (left c.next_back.new.self) (seen c.in_ok-last.last) c.in_ok-last.ensures.steps c.has_no_units.ensures c.if-was_taken-has_no_units.true

pub returns-then-was_taken-has_no_units-clause-goes : goal.returns-then-was_taken-has_no_units-clause-goes
returns-then-was_taken-has_no_units-clause-goes g c =
    progress-last g.V.SplitView.numbers_seen (terminated_left g.V.SplitView.numbers_seen g.V.SplitView.cut_at) _ _ _ (returns-then-was_taken-has_no_units-clause-steps g c)

pub returns-clause-steps : goal.returns-clause-steps
returns-clause-steps g c =
    let seen = g.V.SplitView.numbers_seen in
    let left = substrings_left seen g.V.SplitView.cut_at in
    last-of_same seen c.next_back-2.result (terminated_left seen g.V.SplitView.cut_at c.args.self.now) (left c.next_back.new.self) (left c.next_back-2.new.self)
    (terminated-skipped c.args.self.now.last_taken c.has_no_units.result (left c.args.self.now.all) (left c.next_back.new.self) (seen c.in_ok-last.last) c.in_ok-last.ensures.steps c.has_no_units.ensures c.if-was_taken-has_no_units.false)
    c.next_back-2.ensures.steps

pub returns-clause-goes : goal.returns-clause-goes
returns-clause-goes g c = progress-last g.V.SplitView.numbers_seen (terminated_left g.V.SplitView.numbers_seen g.V.SplitView.cut_at) _ _ _ (returns-clause-steps g c)
