-- Units of either width.
use Rattle.std.specs.Prelude.{ℕ, List}
use Rattle.wide_forms.specs.EncodingForm.{EncodingForm, Utf16, Utf32}
use Rattle.wide_unit.specs.declared.any_units.AnyUnits.{AnyUnits}
use Rattle.wide_unit.specs.declared.any_units.AnyUnits.TheVariants.{U16, U32}

-- The encoding form of units of either width.
abbrev pub any_form : AnyUnits → EncodingForm
any_form (U16 us) = Utf16
any_form (U32 us) = Utf32

-- The numbers of units of either width.
abbrev pub any_numbers : AnyUnits → List ℕ
any_numbers (U16 us) = us.now
any_numbers (U32 us) = us.now
