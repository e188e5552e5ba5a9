use Rattle.std.proofs.Common.{◌≡◌, ◌<◌, ◌≤◌, ◌+◌, ◌*◌, length, take, drop, map}
use Rattle.std.specs.Prelude.{vec_capacity}
use Rattle.std.specs.List.{range_with_len}
use Rattle.wide_forms.specs.EncodingForm.{Utf16, encode}
use Rattle.wide_forms.specs.Items.{chars}
use Rattle.wide_utfstr.specs.View.{units_seen}
use Rattle.wide_utfstr.specs.Iter.{chars_left}
use Rattle.wide_steps.specs.Counted.{counted}
use Rattle.wide_offset_index.specs.Marks.{index_entry}
use Rattle.wide_offset_index.proofs.marks.append_missing.Given as goal

-- The loop invariant: the index entries of the characters that were read, 64 for each entry and `gone` more.
abbrev pub invariant-loop-c : goal.invariant-loop-c
invariant-loop-c l =
    let cs = chars Utf16 (units_seen l.fn.text) in
    let count = length l.marks.items in
    let read = 64 * count + l.gone in
    record {
      some : l.marks.items ≡ map (index_entry cs) (range_with_len 1 count);
      rest : chars_left Utf16 (λ u. u) l.rest ≡ drop read cs;
      at : l.at ≡ length (encode Utf16 (take read cs));
      few : l.gone < 64;
      within : read ≤ length cs;
      space : vec_capacity l.marks ≡ vec_capacity l.fn.marks;
      grows : counted l.fn.steps ≤ counted l.steps;
      steps : counted l.steps + index_entry cs (length l.fn.marks.items) ≡ counted l.fn.steps + l.at;
    }

abbrev pub decreases-loop-c : goal.decreases-loop-c
decreases-loop-c l = length (chars_left Utf16 (λ u. u) l.rest)
