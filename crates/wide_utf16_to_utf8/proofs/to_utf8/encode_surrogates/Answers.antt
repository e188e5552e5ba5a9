use Rattle.std.proofs.Common.{◌≤◌, ◌+◌, ◌-◌, refl, arith, length, take, drop, length-take, length-drop}
use Rattle.wide_utf16_to_utf8.proofs.Lanes.{pairs-at, stop-lead}
use Rattle.wide_utf16_to_utf8.proofs.Tops.{lows-beyond}
use Rattle.wide_utf16_to_utf8.proofs.to_utf8.encode_surrogates.Goals as goal

pub put_pairs-requires-clause-high : goal.put_pairs-requires-clause-high
put_pairs-requires-clause-high c = c.if-are_pairs.ensures refl

pub put_pairs-requires-clause-low : goal.put_pairs-requires-clause-low
put_pairs-requires-clause-low c = lows-beyond (take (c.args.from + 17 - c.args.from) (drop c.args.from c.args.units.now)) (c.if-not-is_paired.ensures.pairs refl) (c.if-are_pairs.ensures refl)

pub put_paired-requires-clause-pairs : goal.put_paired-requires-clause-pairs
put_paired-requires-clause-pairs c = pairs-at c.args.units.now c.args.from _ (omega arith) (c.if-not-is_paired.ensures.pairs refl)

pub returns-then-not-is_paired-clause-stop : goal.returns-then-not-is_paired-clause-stop
returns-then-not-is_paired-clause-stop c some =
    let n = c.args.from + 17 - c.args.from in
    let rest = drop c.args.from c.args.units.now in
    let within : n ≤ length rest = omega (arith, c.requires.long, length-drop c.args.from c.args.units.now) in
    let short : c.encode_plain.result.read ≤ n = omega (arith, c.encode_plain.ensures.read, length-take n rest) in
    stop-lead rest c.encode_plain.result.read n _ short within some c.encode_plain.ensures.stop
