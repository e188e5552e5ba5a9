use Rattle.std.proofs.Common.{◌≡◌, ℕ, List, ap, sym, ◌∙◌, length}
use Rattle.std.proofs.lemmas.List.{length-map}
use Rattle.wide_forms.specs.EncodingForm.{Utf32}
use Rattle.wide_forms.specs.Items.{chars, IsWellFormed}
use Rattle.wide_forms.specs.Laws.Offsets.{encode-chars}
use Rattle.wide_unit.proofs.Lengths.{length-encode_utf32}
use Rattle.wide_unit.proofs.unit.U32Unit.char_count.Goals as goal

length-chars : (us : List ℕ) → IsWellFormed Utf32 us → length us ≡ length (chars Utf32 us)
length-chars us well = sym (ap length (encode-chars Utf32 us well)) ∙ length-encode_utf32 (chars Utf32 us)

pub returns : goal.returns
returns c = sym (length-map c.args.units.now (λ (u : ℕ). u)) ∙ length-chars _ c.requires
