use Rattle.std.proofs.Common.{arith}
use Rattle.widestring_c.proofs.Cuts.{cut-short_after}
use Rattle.widestring_c.proofs.byte_chunks.complete_len.Goals as goal

pub returns-clause-rest : goal.returns-clause-rest
returns-clause-rest c =
    let e = c.len_before_high_surrogate.ensures in
    cut-short_after c.args.order c.args.bytes.now c.len_before_high_surrogate.result (grind (arith, e.within)) (grind (arith, e.within, e.one_unit)) (λ some. e.high (omega (arith, some)))
