use Rattle.std.proofs.Common.{arith, refl, ◌<◌, ◌≤◌, drop, length}
use Rattle.std.proofs.lemmas.Grind.{common_steps}
use Rattle.wide_subtitles.specs.Times.{digits_of, is_digit, number}
use Rattle.wide_subtitles.proofs.Fronts.{front_passes}
use Rattle.wide_subtitles.proofs.times.number_at.Goals as goal

pub returns-clause-some : goal.returns-clause-some
returns-clause-some c =
    let below : number (digits_of (drop c.args.at c.args.units.now)) < c.args.limit = grind (arith, common_steps) in
    let some : 0 < length (digits_of (drop c.args.at c.args.units.now)) = grind (arith, common_steps) in
    let short : length (digits_of (drop c.args.at c.args.units.now)) ≤ c.args.most = grind (arith, common_steps) in (
      λ _. record {
        are_digits = front_passes is_digit (drop c.args.at c.args.units.now);
        is_some = some;
        is_short = short;
        is_below = below;
      },
      λ _. refl,
    )
