use Rattle.std.proofs.Common.{arith, refl, rules}
use Rattle.std.proofs.lemmas.Grind.{common_steps}
use Rattle.wide_convert.proofs.reading.is_reading.Goals as goal

pub returns-in-Some : goal.returns-in-Some
returns-in-Some c = (
  λ yes. record {
    space = search rules;
    few = omega (arith, c.if-reading-gt4.false);
    state = grind (arith, common_steps);
    start = λ none. absurd cc;
    no_bom = λ none. absurd cc;
    fits = c.position_fits.ensures;
  },
  λ is. refl,
)
