use Rattle.std.proofs.Common.{◌≡◌, ◌++◌, ◌≤◌, length, take, drop}
use Rattle.wide_forms.specs.EncodingForm.{Utf32}
use Rattle.wide_forms.specs.Items.{items}
use Rattle.wide_forms.specs.Lossy.{ends_in_fault, lossy_after}
use Rattle.wide_repair.proofs.lossy.lossy_prefix_32.Given as goal

abbrev pub invariant-loop-k : goal.invariant-loop-k
invariant-loop-k l = record {
  few : l.at ≤ l.k;
  space : length l.text ≡ length l.fn.text;
  units : lossy_after l.policy l.after_fault (items Utf32 l.prefix) ≡ take l.at l.text ++ lossy_after l.policy l.is_after (items Utf32 (drop l.k l.prefix));
  state : ends_in_fault l.after_fault (items Utf32 l.prefix) ≡ ends_in_fault l.is_after (items Utf32 (drop l.k l.prefix));
}
