use Rattle.std.proofs.Common.{◌*◌, ◌/◌, [], length, take, drop, arith, length-drop}
use Rattle.wide_bytes.specs.Bytes.{units_in}
use Rattle.widestring_c.proofs.ChunkUnits.{cut-before_half, cut-before_none}
use Rattle.widestring_c.proofs.byte_chunks.chunk_len.Goals as goal

pub returns-then-bytes-clause-cut : goal.returns-then-bytes-clause-cut
returns-then-bytes-clause-cut c =
    let n = length c.args.bytes.now / 2 * 2 in
    cut-before_half c.args.order (units_in c.args.order (take n c.args.bytes.now)) (drop n c.args.bytes.now) (omega (arith, length-drop n c.args.bytes.now))

pub returns-else-bytes-clause-cut : goal.returns-else-bytes-clause-cut
returns-else-bytes-clause-cut c =
    let n = c.len_before_high_surrogate.result in
    cut-before_none c.args.order (units_in c.args.order (take n c.args.bytes.now)) (drop n c.args.bytes.now) (c.len_before_high_surrogate.ensures.cut [])
