-- A prefix of bytes as units of 16 bits, and what follows it.
use Rattle.std.specs.Prelude.{◌≡◌, ℕ, ◌*◌, ◌<◌, ◌≤◌, Bool, false, List, [], ◌++◌, take, drop, length, slice_index}
use Rattle.std.specs.Char.{IsScalar}
use Rattle.std.specs.List.{All}
use Rattle.std.specs.Str.{IsUtf8, StartsWithNoChar}
use Rattle.std.specs.Str.{chars as str_chars}
use Rattle.std.specs.Str.Lossy.{utf8_invalid_len}
use Rattle.wide_forms.specs.EncodingForm.{Utf16, encode}
use Rattle.wide_bytes.specs.declared.order.BoM.{BoM}
use Rattle.wide_conversions.specs.ChunkEnds.{BeginsCharacter}
use Rattle.wide_schemes.specs.Layouts.{MayFollow, unit32_at, units32_in}
use Rattle.wide_schemes.specs.declared.progress.DecodeStop.{DecodeStop}
use Rattle.wide_schemes.specs.declared.progress.DecodeStop.TheVariants.{AtEnd, NoSpace, Incomplete, Fault}

-- The units are those of the characters in the first `read` bytes of the text.
pub record IsTextPrefix (text : List ℕ) (read : ℕ) (us : List ℕ) : Type 0 where
  pub units : encode Utf16 (str_chars text) ≡ us ++ encode Utf16 (str_chars (drop read text))
  pub rest : IsUtf8 (drop read text)

-- The bytes begin with an ill-formed sequence of `len` bytes, whatever follows them.
pub record BeginsIllFormed (bytes : List ℕ) (last : Bool) (unit len : ℕ) : Type 0 where
  pub some : 0 < len
  pub within : len ≤ length bytes
  pub first : unit ≡ slice_index bytes 0
  pub no_char : (more : List ℕ) → MayFollow last more → StartsWithNoChar (bytes ++ more)
  pub part : (more : List ℕ) → MayFollow last more → utf8_invalid_len (bytes ++ more) ≡ len

-- What the bytes after the longest prefix that is UTF-8 are.
abbrev pub EndsText : List ℕ → Bool → DecodeStop → Type 0
EndsText rest last AtEnd = rest ≡ []
EndsText rest last NoSpace = ⊥
EndsText rest last Incomplete = (0 < length rest) × (last ≡ false) × BeginsCharacter rest
EndsText rest last (Fault unit len) = BeginsIllFormed rest last unit len

-- The first `read` bytes are those of scalar values in UTF-32, and the units are those of these scalar values.
pub record IsScalarPart (order : BoM) (bytes : List ℕ) (read : ℕ) (us : List ℕ) : Type 0 where
  pub count : ℕ
  pub whole : read ≡ 4 * count
  pub within : read ≤ length bytes
  pub scalars : All IsScalar (units32_in order (take read bytes))
  pub units : us ≡ encode Utf16 (units32_in order (take read bytes))

-- The bytes begin with a unit of 32 bits that is no scalar value.
pub record BeginsWithNoScalar (order : BoM) (bytes : List ℕ) (unit : ℕ) : Type 0 where
  pub within : 4 ≤ length bytes
  pub is : unit ≡ unit32_at order bytes 0
  pub no_scalar : ¬ (IsScalar unit)
