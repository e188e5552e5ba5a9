use Rattle.std.proofs.Common.{◌≡◌, ◌≤◌, ◌+◌, ◌*◌, length, take, drop}
use Rattle.wide_forms.specs.EncodingForm.{Utf16, encode}
use Rattle.wide_forms.specs.Items.{chars}
use Rattle.wide_utfstr.specs.View.{units_seen}
use Rattle.wide_utfstr.specs.Iter.{chars_left}
use Rattle.wide_steps.specs.Counted.{counted}
use Rattle.wide_offset_index.proofs.marks.find_from.Given as goal

abbrev pub invariant-loop-number : goal.invariant-loop-number
invariant-loop-number l =
    let cs = chars Utf16 (units_seen l.fn.text) in
    record {
      rest : chars_left Utf16 (λ u. u) l.rest ≡ drop l.number cs;
      at : l.at ≡ length (encode Utf16 (take l.number cs));
      within : l.number ≤ length cs;
      grows : counted l.fn.steps ≤ counted l.steps;
      steps : counted l.steps + 128 * l.first ≤ counted l.fn.steps + 2 * l.number;
    }
