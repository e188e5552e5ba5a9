use Rattle.std.proofs.Common.{◌≡◌, ◌+◌, ◌-◌}
use Rattle.wide_forms.specs.EncodingForm.{Utf16}
use Rattle.wide_forms.specs.Items.{chars}
use Rattle.wide_utfstr.specs.View.{units_seen}
use Rattle.wide_steps.specs.Counted.{counted}
use Rattle.wide_offset_index.specs.Marks.{offset}
use Rattle.wide_offset_index.proofs.passing.pass_back.Given as goal

abbrev pub invariant-loop-passed : goal.invariant-loop-passed
invariant-loop-passed l = record {
  at : l.at ≡ offset (chars Utf16 (units_seen l.fn.text)) (l.fn.from - l.passed);
  steps : counted l.steps + l.at ≡ counted l.fn.steps + l.fn.start;
}
