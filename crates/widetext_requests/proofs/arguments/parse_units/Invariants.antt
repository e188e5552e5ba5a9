use Rattle.std.specs.Str.Iter.{split_has_more, split_text, split_pattern}
use Rattle.std.proofs.Common.{◌≡◌, ℕ, List, true}
use Rattle.widetext_requests.specs.Command.{AreUnits}
use Rattle.widetext_requests.proofs.Units.{Reads}
use Rattle.widetext_requests.proofs.arguments.parse_units.Given as goal

abbrev pub invariant-loop-digits : goal.invariant-loop-digits
invariant-loop-digits l = record {
  comma : split_pattern l.digits-iterator ≡ 44;
  reads : Reads l.fn.word l.units.items (split_has_more l.digits-iterator) (split_text l.digits-iterator);
  left : (us : List ℕ) → AreUnits l.fn.word us → split_has_more l.digits-iterator ≡ true → (others : List ℕ) × AreUnits (split_text l.digits-iterator) others;
}
