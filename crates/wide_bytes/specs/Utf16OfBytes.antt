-- The bytes that the fields of `Utf16OfBytes` represent.
use Rattle.std.specs.Prelude.{ℕ, List, [], ◌∷◌, ◌++◌, if◌then◌else◌, option_to_list}
use Rattle.wide_forms.specs.UnitBytes.{byte_order_mark}
use Rattle.wide_bytes.specs.Bytes.{bytes_in}
use Rattle.wide_bytes.specs.UnitsOfBytes.{units_left}
use Rattle.wide_bytes.specs.declared.whole.Utf16OfBytes.{Utf16OfBytes}

-- The bytes of the BOM, if there was one (section 23.8, U+FEFF).
abbrev pub bom_bytes : Utf16OfBytes → List ℕ
bom_bytes parts = if parts.has_bom then bytes_in parts.order (byte_order_mark ∷ []) else []

-- All bytes: those of the BOM, of the code units, and half of a unit.
abbrev pub whole_bytes : Utf16OfBytes → List ℕ
whole_bytes parts = bom_bytes parts ++ bytes_in parts.order (units_left parts.units) ++ option_to_list parts.half
