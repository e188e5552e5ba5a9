use Rattle.std.proofs.Common.{◌≡◌, ◌≤◌, ◌+◌, ◌*◌, length, drop}
use Rattle.wide_forms.specs.EncodingForm.{Utf16}
use Rattle.wide_forms.specs.Items.{chars}
use Rattle.wide_utfstr.specs.View.{units_seen}
use Rattle.wide_utfstr.specs.Iter.{chars_left}
use Rattle.wide_steps.specs.Counted.{counted}
use Rattle.wide_offset_index.proofs.marks.count_from.Given as goal

abbrev pub invariant-loop-c : goal.invariant-loop-c
invariant-loop-c l =
    let cs = chars Utf16 (units_seen l.fn.text) in
    record {
      rest : chars_left Utf16 (λ u. u) l.rest ≡ drop l.count cs;
      within : l.count ≤ length cs;
      grows : counted l.fn.steps ≤ counted l.steps;
      steps : counted l.steps + 128 * length l.fn.marks ≤ counted l.fn.steps + 2 * l.count;
    }

abbrev pub decreases-loop-c : goal.decreases-loop-c
decreases-loop-c l = length (chars_left Utf16 (λ u. u) l.rest)
