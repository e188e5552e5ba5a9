use Rattle.std.proofs.Common.{◌≡◌, true, rules, length}
use Rattle.std.specs.Char.{is_whitespace}
use Rattle.wide_forms.specs.EncodingForm.{code_units}
use Rattle.wide_utfstr.specs.View.{text_seen}
use Rattle.wide_utfstr.proofs.Trims.{past-more, back-more}
use Rattle.wide_utfstr.proofs.view.UtfStr.trim_start.Goals as goal

pub loop-c-preserved : goal.loop-c-preserved
loop-c-preserved g c =
    let white : is_whitespace c.in-Some.c ≡ true = search rules in (
      past-more (text_seen c.args.self) (text_seen c.loop-c.rest) (text_seen c.in-Some.others) c.in-Some.c c.loop-c.invariant.0 c.in-Some.ensures.some white,
      back-more c.args.self.units.now c.loop-c.rest.units.now c.in-Some.others.units.now (length (code_units g.C.Unit.form c.in-Some.c)) c.loop-c.invariant.1 c.in-Some.ensures.rest,
    )
