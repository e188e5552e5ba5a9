use Rattle.std.proofs.Common.{map, drop}
use Rattle.std.specs.Option.{option_map}
use Rattle.wide_forms.specs.EncodingForm.{Utf32}
use Rattle.wide_forms.specs.Items.{items}
use Rattle.wide_unit.specs.Unit.{reported_item}
use Rattle.wide_iter.specs.Decoder32.{items32_left}
use Rattle.wide_iter.specs.Sources.{copied_rest}
use Rattle.wide_iter.proofs.Turns.{ReadSoFar}
use Rattle.wide_iter.proofs.ends.read_ends32.Given as goal

abbrev pub invariant-loop-end : goal.invariant-loop-end
invariant-loop-end g l = ReadSoFar (items Utf32 l.units) l.ends (drop l.end-index l.ends) (map (option_map reported_item) l.answered.items) (items32_left copied_rest l.decoder)
