use Rattle.std.proofs.Common.{arith}
use Rattle.std.proofs.lemmas.Slice.{drop-put_mid}
use Rattle.widestring_c.proofs.caller_buffer.put_items.Goals as goal

pub returns-then-end-space-clause-beyond : goal.returns-then-end-space-clause-beyond
returns-then-end-space-clause-beyond c = grind (arith, drop-put_mid)
