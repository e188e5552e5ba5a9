use Rattle.std.proofs.Common.{◌∙◌, ◌++◌, ap, arith, drop, length-drop, take}
use Rattle.std.proofs.lemmas.List.{take_all}
use Rattle.std.specs.Int.RustNames.{count_ones}
use Rattle.wide_repair.specs.Compressed.{compressed_lanes}
use Rattle.wide_forms.proofs.Tables.{ones-few}
use Rattle.wide_repair.proofs.Retained.{lanes-stored}
use Rattle.wide_repair.proofs.retention.put_retained.Goals as goal

pub returns-clause-units : goal.returns-clause-units
returns-clause-units c =
    let ms = c.args.repaired.now in
    let bits = c.retained_bits-bits.result in
    let before = take c.args.at c.args.compressed.now in
    let stored = lanes-stored c.args.compressed.now c.compress-lanes.result c.args.at (count_ones bits) (omega arith) (omega (arith, c.requires.space)) (ones-few bits c.retained_bits-bits.ensures.below) in
    let all = take_all 8 (drop 1 ms) (omega (arith, c.requires.repaired, length-drop 1 ms)) in
    stored ∙ ap (λ xs. before ++ xs) (c.compress-lanes.ensures.compressed ∙ ap (compressed_lanes bits) all ∙ ap (λ n. compressed_lanes n (drop 1 ms)) c.retained_bits-bits.ensures.bits)
