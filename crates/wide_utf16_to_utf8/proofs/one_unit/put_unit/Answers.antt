use Rattle.std.proofs.Common.{arith}
use Rattle.wide_utf16_to_utf8.proofs.Stores.{put_one, put_two, put_three}
use Rattle.wide_utf16_to_utf8.proofs.one_unit.put_unit.Goals as goal

pub returns-then-unit-lt128-clause-text : goal.returns-then-unit-lt128-clause-text
returns-then-unit-lt128-clause-text c = put_one _ _ _ (omega arith) (omega arith)

pub returns-then-unit-lt2048-clause-text : goal.returns-then-unit-lt2048-clause-text
returns-then-unit-lt2048-clause-text c = put_two _ _ _ (omega arith) (omega arith) (omega arith)

pub returns-else-unit-lt2048-clause-text : goal.returns-else-unit-lt2048-clause-text
returns-else-unit-lt2048-clause-text c = put_three _ _ _ (omega arith) (omega arith) (omega arith)
