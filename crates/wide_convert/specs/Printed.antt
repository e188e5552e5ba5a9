-- What `{}` prints for each error: a unit in lower-case hexadecimal, offsets and item numbers in decimal, without
-- padding.
use Rattle.std.specs.Prelude.{List, ℕ, ◌++◌, codes, false}
use Rattle.std.specs.Fmt.{decimal, digits}
use Rattle.wide_convert.specs.declared.converter.TextFault.{TextFault}
use Rattle.wide_convert.specs.declared.error.ConvertError.{ConvertError}
use Rattle.wide_convert.specs.declared.error.ConvertError.TheVariants.{Fault, PartOfUnit, TooLong, Read, Write}

-- The text of a fault.
abbrev pub text_fault_text : TextFault → List ℕ
text_fault_text fault = codes "ill-formed unit " ++ (digits 16 false fault.unit ++ (codes " at byte " ++ (decimal fault.offset ++ (codes " (item " ++ (decimal fault.item ++ codes ")")))))

-- The text of an error.
abbrev pub convert_error_text : ConvertError → List ℕ
convert_error_text (Fault fault) = text_fault_text fault
convert_error_text PartOfUnit = codes "the text ends within a unit"
convert_error_text TooLong = codes "the text is too long"
convert_error_text Read = codes "read fault"
convert_error_text Write = codes "write fault"
