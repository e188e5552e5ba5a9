use Rattle.std.proofs.Common.{subst}
use Rattle.wide_conversions.specs.ChunkEnds.{EndsAs}
use Rattle.widestring_c.proofs.FaultCounts.{first_part-count, none-text}
use Rattle.widestring_c.proofs.fault_counts.after_first_part.Goals as goal

pub returns-in-Complete-clause-none : goal.returns-in-Complete-clause-none
returns-in-Complete-clause-none c =
    let end = subst (λ e. EndsAs c.args.text.now c.first_utf8_chunk-chunk.result.valid e) c.in-Complete.is c.first_utf8_chunk-chunk.ensures.end in
    none-text c.args.text.now end.1.1

pub returns-in-IllFormed-clause-count : goal.returns-in-IllFormed-clause-count
returns-in-IllFormed-clause-count c =
    let end = subst (λ e. EndsAs c.args.text.now c.first_utf8_chunk-chunk.result.valid e) c.in-IllFormed.is c.first_utf8_chunk-chunk.ensures.end in
    first_part-count c.args.text.now c.first_utf8_chunk-chunk.result.valid c.in-IllFormed.len end.0.items

pub returns-in-Incomplete-clause-count : goal.returns-in-Incomplete-clause-count
returns-in-Incomplete-clause-count c =
    let end = subst (λ e. EndsAs c.args.text.now c.first_utf8_chunk-chunk.result.valid e) c.in-Incomplete.is c.first_utf8_chunk-chunk.ensures.end in
    first_part-count c.args.text.now c.first_utf8_chunk-chunk.result.valid c.in-Incomplete.len end.0.items
