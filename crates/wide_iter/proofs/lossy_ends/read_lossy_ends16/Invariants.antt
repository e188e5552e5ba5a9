use Rattle.std.proofs.Common.{map, drop}
use Rattle.std.specs.Option.{option_map}
use Rattle.wide_forms.specs.EncodingForm.{Utf16}
use Rattle.wide_forms.specs.Items.{items}
use Rattle.wide_forms.specs.Lossy.{lossy_by}
use Rattle.wide_iter.specs.LossyDecoders.{lossy16_with_left}
use Rattle.wide_iter.specs.Sources.{copied_rest}
use Rattle.wide_iter.proofs.Turns.{ReadSoFar}
use Rattle.wide_iter.proofs.lossy_ends.read_lossy_ends16.Given as goal

abbrev pub invariant-loop-end : goal.invariant-loop-end
invariant-loop-end g l = ReadSoFar (lossy_by l.fn.policy (items Utf16 l.units)) l.ends (drop l.end-index l.ends) (map (option_map (λ c. c)) l.given.items) (lossy16_with_left copied_rest l.decoder)
