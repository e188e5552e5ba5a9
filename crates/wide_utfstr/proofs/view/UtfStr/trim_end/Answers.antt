use Rattle.std.proofs.Common.{◌≡◌, true, rules, length, arith}
use Rattle.std.proofs.lemmas.Grind.{common_steps}
use Rattle.std.specs.Char.{is_whitespace}
use Rattle.wide_utfstr.specs.View.{text_seen}
use Rattle.wide_utfstr.proofs.Trims.{before-more, prefix-more}
use Rattle.wide_utfstr.proofs.view.UtfStr.trim_end.Goals as goal

pub loop-others-preserved : goal.loop-others-preserved
loop-others-preserved g c =
    let white : is_whitespace c.in-Some.c ≡ true = search rules in (
      before-more (text_seen c.args.self) (text_seen c.loop-others.rest) (text_seen c.in-Some.others) c.in-Some.c c.loop-others.invariant.0 c.in-Some.ensures.some white,
      prefix-more c.args.self.units.now c.loop-others.rest.units.now c.in-Some.others.units.now (length c.in-Some.others.units.now) c.loop-others.invariant.1 c.in-Some.ensures.rest,
    )

pub returns-then-not-is_whitespace-clause-trimmed : goal.returns-then-not-is_whitespace-clause-trimmed
returns-then-not-is_whitespace-clause-trimmed g c = grind (arith, common_steps)

pub returns-clause-trimmed : goal.returns-clause-trimmed
returns-clause-trimmed g c = grind (arith, common_steps)
