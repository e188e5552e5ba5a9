-- What `{}` prints for each error: a unit or number in lower-case hexadecimal, an index and an item number in decimal,
-- without padding.
use Rattle.std.specs.Prelude.{ℕ, List, ◌++◌, codes, false}
use Rattle.std.specs.Fmt.{digits, decimal}
use Rattle.wide_error.specs.declared.error.TranscodeError.{TranscodeError}
use Rattle.wide_error.specs.declared.error.TranscodeError.TheVariants.{Utf16, OutOfMemory, OddLength, Read, Write}

-- The text of an unpaired surrogate that a decoder reports.
abbrev pub unpaired_surrogate_text : ℕ → List ℕ
unpaired_surrogate_text unit = codes "unpaired surrogate found: " ++ digits 16 false unit

-- The text of a unit of UTF-32 that is no scalar value.
abbrev pub invalid_code_point_text : ℕ → List ℕ
invalid_code_point_text code = codes "invalid UTF-32 code point: " ++ digits 16 false code

-- The text of an allocation that failed.
abbrev pub out_of_memory_text : List ℕ
out_of_memory_text = codes "out of memory"

-- Where a first fault is: its index and its item number.
abbrev pub position_text : ℕ → ℕ → List ℕ
position_text index item = codes " at index " ++ (decimal index ++ (codes " (item " ++ (decimal item ++ codes ")")))

-- The text of a first fault of UTF-16.
abbrev pub utf16_error_text : ℕ → ℕ → ℕ → List ℕ
utf16_error_text index item unit = codes "unpaired UTF-16 surrogate " ++ (digits 16 false unit ++ position_text index item)

-- The text of a first fault of UTF-32.
abbrev pub utf32_error_text : ℕ → ℕ → ℕ → List ℕ
utf32_error_text index item unit = codes "invalid UTF-32 value " ++ (digits 16 false unit ++ position_text index item)

-- The text of an error of transcoding.
abbrev pub transcode_error_text : TranscodeError → List ℕ
transcode_error_text (Utf16 index item unit) = utf16_error_text index item unit
transcode_error_text OutOfMemory = out_of_memory_text
transcode_error_text OddLength = codes "file not encoded as UTF-16"
transcode_error_text Read = codes "read fault"
transcode_error_text Write = codes "write fault"

-- The text of units that do not end in a NUL.
abbrev pub missing_nul_text : List ℕ
missing_nul_text = codes "missing terminating nul value"

-- The text of a NUL where none is allowed.
abbrev pub contains_nul_text : ℕ → List ℕ
contains_nul_text position = codes "invalid nul value found at position " ++ decimal position
