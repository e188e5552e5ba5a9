-- Bytes that are WTF-8, and the first fault of others.
use Rattle.std.specs.Prelude.{◌≡◌, ℕ, ◌+◌, ◌<◌, ◌≤◌, Bool, false, List, ◌∷◌, ◌++◌, map, length, drop}
use Rattle.std.specs.List.{All}
use Rattle.wide_forms.specs.EncodingForm.{Utf16, IsCodeUnit, encode}
use Rattle.wide_forms.specs.Segmentation.{Char, Fault}
use Rattle.wide_forms.specs.Utf8.{utf8}
use Rattle.wide_schemes.specs.Wtf8.{wtf8, IsWtf8}
use Rattle.wide_schemes.specs.Wtf8Items.{wtf8_items}
use Rattle.wide_wtf8.specs.declared.fault.FromWtf8Error.{FromWtf8Error}
use Rattle.wide_wtf8.specs.declared.fault.FromWtf8Error.TheVariants.{Fault as AtFault, OutOfMemory}

-- The bytes are those of these units.
pub record IsWtf8Of (us bytes : List ℕ) : Type 0 where
  pub sixteen_bits : All (IsCodeUnit Utf16) us
  pub text : bytes ≡ wtf8 us

-- The bytes are those of the units. `after_high` says whether the first half of a pair precedes them.
pub record AreUnitsAfter (after_high : Bool) (bytes us : List ℕ) : Type 0 where
  pub points : List ℕ
  pub items : wtf8_items after_high bytes ≡ map Char points
  pub units : encode Utf16 points ≡ us

-- The bytes have a fault, and the first one begins after `index` bytes, those of code points, and has `len` bytes.
pub record IsFirstFaultAfter (after_high : Bool) (bytes : List ℕ) (index len : ℕ) : Type 0 where
  pub points : List ℕ
  pub unit : ℕ
  -- Whether the last code point is the first half of a pair.
  pub state : Bool
  pub before : index ≡ length (utf8 points)
  pub some : 0 < len
  pub within : index + len ≤ length bytes
  pub items : wtf8_items after_high bytes ≡ map Char points ++ Fault unit ∷ wtf8_items state (drop (index + len) bytes)

-- The first fault of bytes that are not WTF-8: an ill-formed sequence of UTF-8 that is no surrogate, or the second half
-- of a pair whose halves are written apart.
abbrev pub IsFirstWtf8Fault : List ℕ → ℕ → ℕ → Type 0
IsFirstWtf8Fault bytes index len = IsFirstFaultAfter false bytes index len

-- Why no string is made of the bytes.
abbrev pub IsErrorOf : List ℕ → FromWtf8Error → Type 0
IsErrorOf bytes (AtFault fault) = IsFirstWtf8Fault bytes fault.index fault.len
IsErrorOf bytes OutOfMemory = IsWtf8 bytes
