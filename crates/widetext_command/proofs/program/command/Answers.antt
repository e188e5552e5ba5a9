use Rattle.std.proofs.Common.{rules}
use Rattle.widetext_requests.proofs.Asking.{ends_no_utf8, edits_no_utf8}
use Rattle.widetext_command.proofs.program.command.Goals as goal

pub returns-in-Some-clause-reads : goal.returns-in-Some-clause-reads
returns-in-Some-clause-reads g c = λ other. absurd (other c.in-Some.policy (c.parse_utf8.ensures.utf8_alone c.in-Some.policy (search rules)))

pub returns-in-Some-clause-unknown : goal.returns-in-Some-clause-unknown
returns-in-Some-clause-unknown g c = λ unknown. absurd (unknown.no_utf8 c.in-Some.policy (c.parse_utf8.ensures.utf8_alone c.in-Some.policy (search rules)))

pub returns-in-Some-clause-whole : goal.returns-in-Some-clause-whole
returns-in-Some-clause-whole g c = λ other one valid. absurd (other c.in-Some.policy (c.parse_utf8.ensures.utf8_alone c.in-Some.policy (search rules)))

pub returns-in-Some-clause-ends : goal.returns-in-Some-clause-ends
returns-in-Some-clause-ends g c = λ asks zero. absurd (ends_no_utf8 _ asks c.in-Some.policy (c.parse_utf8.ensures.utf8_alone c.in-Some.policy (search rules)))

pub returns-in-Some-clause-edit : goal.returns-in-Some-clause-edit
returns-in-Some-clause-edit g c = λ asks zero. absurd (edits_no_utf8 _ asks c.in-Some.policy (c.parse_utf8.ensures.utf8_alone c.in-Some.policy (search rules)))

pub returns-in-Some-clause-ends_begun : goal.returns-in-Some-clause-ends_begun
returns-in-Some-clause-ends_begun g c = λ asks failed. absurd (ends_no_utf8 _ asks c.in-Some.policy (c.parse_utf8.ensures.utf8_alone c.in-Some.policy (search rules)))

pub returns-in-Some-clause-edit_begun : goal.returns-in-Some-clause-edit_begun
returns-in-Some-clause-edit_begun g c = λ asks failed. absurd (edits_no_utf8 _ asks c.in-Some.policy (c.parse_utf8.ensures.utf8_alone c.in-Some.policy (search rules)))

pub returns-in-Some-clause-failure : goal.returns-in-Some-clause-failure
returns-in-Some-clause-failure g c = λ other one. absurd (other c.in-Some.policy (c.parse_utf8.ensures.utf8_alone c.in-Some.policy (search rules)))
