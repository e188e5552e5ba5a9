use Rattle.std.proofs.Common.{◌≡◌, ◌++◌, take}
use Rattle.std.specs.Prelude.{string_bytes, codes}
use Rattle.std.specs.List.{flat_map}
use Rattle.widetext_requests.specs.Lines.{spaced_unit}
use Rattle.widetext_requests.proofs.lines.push_units16.Given as goal

abbrev pub invariant-loop-unit : goal.invariant-loop-unit
invariant-loop-unit l = string_bytes l.lines ≡ (string_bytes l.fn.lines ++ codes "utf16") ++ flat_map (spaced_unit 4) (take l.unit-index l.units)
