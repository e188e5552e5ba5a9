-- How bytes end after the longest prefix that is UTF-8: the Standard's D92, D93b and Table 3-7.
use Rattle.std.specs.Prelude.{◌≡◌, ℕ, ◌+◌, ◌<◌, ◌≤◌, List, ◌++◌, drop, length, map}
use Rattle.std.specs.Char.{IsScalar}
use Rattle.std.specs.Str.{IsUtf8, IsValidUpTo}
use Rattle.std.specs.Str.{chars as str_chars}
use Rattle.std.specs.Str.Lossy.{utf8_invalid_len}
use Rattle.wide_forms.specs.Segmentation.{Char}
use Rattle.wide_forms.specs.Utf8.{utf8_bytes}
use Rattle.wide_conversions.specs.Utf8Items.{HasFirstPart, utf8_items}
use Rattle.wide_conversions.specs.declared.utf8_validation.Utf8End.{Utf8End}
use Rattle.wide_conversions.specs.declared.utf8_validation.Utf8End.TheVariants.{Complete, IllFormed, Incomplete}

-- The first `offset` bytes are the longest prefix that is UTF-8, and the next `len` bytes are the first fault.
pub record HasFaultAt (bs : List ℕ) (offset len : ℕ) : Type 0 where
  pub within : offset + len ≤ length bs
  pub some : 0 < len
  pub valid : IsValidUpTo bs offset
  pub part : len ≡ utf8_invalid_len (drop offset bs)
  pub items : HasFirstPart bs offset len

-- The bytes are the beginning of a character's bytes.
pub record BeginsCharacter (bs : List ℕ) : Type 0 where
  pub character : ℕ
  pub scalar : IsScalar character
  pub more : List ℕ
  pub some : 0 < length more
  pub whole : bs ++ more ≡ utf8_bytes character

-- What follows the first `valid` bytes, the longest prefix that is UTF-8. A fault is the same whatever follows the
-- bytes. An incomplete sequence extends to the end of the bytes, and some bytes more make it a character.
abbrev pub EndsAs : List ℕ → ℕ → Utf8End → Type 0
EndsAs bs valid Complete = (valid ≡ length bs) × (IsUtf8 bs × (utf8_items bs ≡ map Char (str_chars bs)))
EndsAs bs valid (IllFormed len) = HasFaultAt bs valid len × ((more : List ℕ) → HasFaultAt (bs ++ more) valid len)
EndsAs bs valid (Incomplete len) = HasFaultAt bs valid len × ((valid + len ≡ length bs) × BeginsCharacter (drop valid bs))
