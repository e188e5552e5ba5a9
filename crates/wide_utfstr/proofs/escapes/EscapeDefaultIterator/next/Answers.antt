use Rattle.wide_utfstr.specs.Escapes.{escapes_rest, default_left}
use Rattle.wide_utfstr.proofs.Escaped.{all-reported, progress-first}
use Rattle.wide_utfstr.proofs.escapes.EscapeDefaultIterator.next.Goals as goal

pub returns-clause-steps : goal.returns-clause-steps
returns-clause-steps g c = c.next.ensures.first (all-reported (escapes_rest c.args.self.now.escapes))

pub returns-clause-goes : goal.returns-clause-goes
returns-clause-goes g c = progress-first default_left c.args.self.now (record { escapes = c.next.new.self }) c.next.result (returns-clause-steps g c)
