use Rattle.std.proofs.Common.{rules}
use Rattle.widetext_requests.proofs.Hex.{hex_hole}
use Rattle.widetext_requests.proofs.ends.push_answer.Goals as goal

pub returns-in-Some-Ok : goal.returns-in-Some-Ok
returns-in-Some-Ok c = search (rules, hex_hole 4)
