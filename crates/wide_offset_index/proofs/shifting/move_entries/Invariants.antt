use Rattle.std.proofs.Common.{◌≡◌, ◌+◌, ◌<◌, ◌≤◌, ◌-◌, ◌/◌, ℕ, length, take, map}
use Rattle.std.specs.Prelude.{slice_index, max, min}
use Rattle.std.specs.List.{range_with_len}
use Rattle.wide_forms.specs.EncodingForm.{Utf16}
use Rattle.wide_forms.specs.Items.{chars}
use Rattle.wide_utfstr.specs.View.{units_seen}
use Rattle.wide_steps.specs.Counted.{counted}
use Rattle.wide_offset_index.specs.Marks.{index_entry}
use Rattle.wide_offset_index.proofs.shifting.move_entries.Given as goal

-- The loop invariant: the entries before number `number` are those of the text, and the others are unchanged.
abbrev pub invariant-loop-number : goal.invariant-loop-number
invariant-loop-number l =
    let cs = chars Utf16 (units_seen l.fn.text) in
    record {
      long : length l.entries ≡ length l.fn.entries;
      done : take l.number l.entries ≡ map (index_entry cs) (range_with_len 1 l.number);
      same : (k : ℕ) → l.number ≤ k → slice_index l.entries k ≡ slice_index l.fn.entries k;
      grows : counted l.fn.steps ≤ counted l.steps;
      none : l.number ≡ l.fn.range.from / 64 → counted l.steps ≡ counted l.fn.steps;
      least : l.fn.range.from / 64 < l.number → counted l.fn.steps + (l.number - l.fn.range.from / 64) + index_entry cs (l.fn.range.from / 64 + 1) ≤ counted l.steps + l.fn.range.start;
      steps : counted l.steps + l.fn.range.start ≤ counted l.fn.steps + max l.fn.range.start (index_entry cs l.number) + min 1 (l.number - l.fn.range.from / 64);
    }
