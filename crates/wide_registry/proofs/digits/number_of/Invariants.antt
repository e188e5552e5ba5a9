use Rattle.std.proofs.Common.{◌≡◌, ◌<◌, ◌^◌, ℕ, take}
use Rattle.wide_registry.specs.Digits.{IsHex, number}
use Rattle.wide_registry.proofs.digits.number_of.Given as goal

abbrev pub invariant-loop-unit : goal.invariant-loop-unit
invariant-loop-unit l =
    (l.value ≡ number (take l.unit-index l.digits)) × IsHex (take l.unit-index l.digits) × (l.value < 16 ^ l.unit-index)
