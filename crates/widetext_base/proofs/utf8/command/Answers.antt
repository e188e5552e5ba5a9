use Rattle.std.proofs.Common.{rules}
use Rattle.widetext_base.proofs.utf8.command.Goals as goal

pub returns-in-Some-clause-reads : goal.returns-in-Some-clause-reads
returns-in-Some-clause-reads g c = λ other. absurd (other c.in-Some.policy (c.parse_utf8.ensures.utf8_alone c.in-Some.policy (search rules)))

pub returns-in-Some-clause-unknown : goal.returns-in-Some-clause-unknown
returns-in-Some-clause-unknown g c = λ other. absurd (other c.in-Some.policy (c.parse_utf8.ensures.utf8_alone c.in-Some.policy (search rules)))
