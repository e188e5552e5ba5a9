use Rattle.std.proofs.Common.{◌≡◌, ◌↔◌, length}
use Rattle.wide_forms.specs.EncodingForm.{Utf16}
use Rattle.wide_forms.specs.Items.{IsWellFormed, chars}
use Rattle.wide_utfstr.specs.View.{text_seen}
use Rattle.wide_utfstr.proofs.compare.same_text.Given as goal

abbrev pub invariant-chunks : goal.invariant-chunks
invariant-chunks l = record {
  well_formed : IsWellFormed Utf16 l.units;
  same : (text_seen l.narrow ≡ text_seen l.wide) ↔ (chars Utf16 l.units ≡ l.scalars);
}

abbrev pub decreases-chunks : goal.decreases-chunks
decreases-chunks l = length l.units
