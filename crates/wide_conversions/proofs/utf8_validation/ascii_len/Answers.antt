use Rattle.std.proofs.Common.{arith, refl}
use Rattle.wide_conversions.proofs.ValidPrefixes.{more_ascii}
use Rattle.wide_conversions.proofs.utf8_validation.ascii_len.Goals as goal

pub runs-preserved : goal.runs-preserved
runs-preserved c =
    let before = c.runs.invariant in
    record { within = omega (arith, before.within); ascii = more_ascii c.args.text.now c.runs.len _ (omega (arith, before.within)) before.ascii (c.if-are_ascii.ensures refl) }
