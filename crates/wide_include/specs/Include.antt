-- Why no string was made of a UTF-16 file.
use Rattle.std.specs.Prelude.{◌≡◌, ℕ, List, true, false, Some, Vec}
use Rattle.wide_forms.specs.EncodingForm.{Utf16 as form16}
use Rattle.wide_forms.specs.Items.{IsFirstFault}
use Rattle.wide_utferror.specs.UtfError.{index_of, item_of, unit_of, vec_of}
use Rattle.wide_bytes.specs.Bytes.{units_of_bytes, is_odd}
use Rattle.wide_utferror.specs.declared.convert.Utf16BytesError.{Utf16BytesError}
use Rattle.wide_utferror.specs.declared.convert.Utf16BytesError.TheVariants.{OddLength, Utf16, OutOfMemory}

-- An odd length takes precedence, then a failed allocation, and then the first fault, with the vector of the units.
abbrev pub ReportsOfBytes : {A : Type 0} → List ℕ → Utf16BytesError A → Type 0
ReportsOfBytes bytes OddLength = is_odd bytes ≡ true
ReportsOfBytes bytes OutOfMemory = is_odd bytes ≡ false
ReportsOfBytes {A} bytes (Utf16 e) =
    (is_odd bytes ≡ false) × IsFirstFault form16 (units_of_bytes bytes) (index_of e) (item_of e) (unit_of e) × (vec : Vec ℕ A) × (vec_of e ≡ Some vec) × (vec.items ≡ units_of_bytes bytes)
