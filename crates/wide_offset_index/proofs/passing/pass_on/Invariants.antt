use Rattle.std.proofs.Common.{◌≡◌, ◌+◌}
use Rattle.wide_forms.specs.EncodingForm.{Utf16}
use Rattle.wide_forms.specs.Items.{chars}
use Rattle.wide_utfstr.specs.View.{units_seen}
use Rattle.wide_steps.specs.Counted.{counted}
use Rattle.wide_offset_index.specs.Marks.{offset}
use Rattle.wide_offset_index.proofs.passing.pass_on.Given as goal

abbrev pub invariant-loop-number : goal.invariant-loop-number
invariant-loop-number l = record {
  at : l.at ≡ offset (chars Utf16 (units_seen l.fn.text)) l.number;
  steps : counted l.steps + l.fn.start ≡ counted l.fn.steps + l.at;
}
