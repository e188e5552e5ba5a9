-- What an error of a conversion prints, and the fault that it holds.
use Rattle.std.specs.Prelude.{ℕ, List, Option, Some, None, codes}
use Rattle.wide_error.specs.Texts.{utf16_error_text, utf32_error_text, out_of_memory_text}
use Rattle.wide_utferror.specs.UtfError.{index_of, item_of, unit_of}
use Rattle.wide_utferror.specs.declared.error.UtfError.{UtfError}
use Rattle.wide_utferror.specs.declared.convert.Utf16ConvertError.{Utf16ConvertError}
use Rattle.wide_utferror.specs.declared.convert.Utf16ConvertError.TheVariants.{Utf16, OutOfMemory}
use Rattle.wide_utferror.specs.declared.convert.Utf32ConvertError.{Utf32ConvertError}
use Rattle.wide_utferror.specs.declared.convert.Utf32ConvertError.TheVariants.{Utf32, OutOfMemory as NoMemory32}
use Rattle.wide_utferror.specs.declared.convert.Utf16BytesError.{Utf16BytesError}
use Rattle.wide_utferror.specs.declared.convert.Utf16BytesError.TheVariants.{OddLength, Utf16 as BytesUtf16, OutOfMemory as NoMemoryBytes}

module _ {A : Type 0} where
  -- What `{}` prints for an error of converting UTF-16: the text of the cause.
  abbrev pub utf16_convert_error_text : Utf16ConvertError A → List ℕ
  utf16_convert_error_text (Utf16 e) = utf16_error_text (index_of e) (item_of e) (unit_of e)
  utf16_convert_error_text OutOfMemory = out_of_memory_text

  -- What `{}` prints for an error of converting UTF-32: the text of the cause.
  abbrev pub utf32_convert_error_text : Utf32ConvertError A → List ℕ
  utf32_convert_error_text (Utf32 e) = utf32_error_text (index_of e) (item_of e) (unit_of e)
  utf32_convert_error_text NoMemory32 = out_of_memory_text

  -- What `{}` prints for an error of converting bytes of UTF-16: the text of the cause.
  abbrev pub utf16_bytes_error_text : Utf16BytesError A → List ℕ
  utf16_bytes_error_text OddLength = codes "file not encoded as UTF-16"
  utf16_bytes_error_text (BytesUtf16 e) = utf16_error_text (index_of e) (item_of e) (unit_of e)
  utf16_bytes_error_text NoMemoryBytes = out_of_memory_text

  -- The error of ill-formed UTF-16, or none if an allocation failed.
  abbrev pub utf16_fault : Utf16ConvertError A → Option (UtfError ℕ A)
  utf16_fault (Utf16 e) = Some e
  utf16_fault OutOfMemory = None

  -- The error of ill-formed UTF-32, or none if an allocation failed.
  abbrev pub utf32_fault : Utf32ConvertError A → Option (UtfError ℕ A)
  utf32_fault (Utf32 e) = Some e
  utf32_fault NoMemory32 = None
