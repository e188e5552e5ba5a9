-- Parts of bytes that were decoded, and what follows them.
use Rattle.std.specs.Prelude.{◌≡◌, ℕ, ◌<◌, ◌≤◌, Bool, List, [], ◌∷◌, ◌++◌, map, length, drop}
use Rattle.wide_forms.specs.EncodingForm.{Utf16, encode}
use Rattle.wide_forms.specs.Segmentation.{Char, Fault}
use Rattle.wide_forms.specs.Utf8.{utf8}
use Rattle.wide_schemes.specs.Wtf8Items.{wtf8_items}
use Rattle.wide_schemes.specs.declared.progress.DecodeStop.{DecodeStop}
use Rattle.wide_schemes.specs.declared.progress.DecodeStop.TheVariants.{AtEnd, NoSpace, Incomplete, Fault as StopFault}
use Rattle.wide_wtf8.specs.declared.decoding.Next.{Next}
use Rattle.wide_wtf8.specs.declared.decoding.Next.TheVariants.{End, More, Fault as AtFault}

-- The first `read` bytes are code points, those of the units. The states say whether the first half of a pair precedes
-- the bytes, and whether the last code point is one.
pub record IsPart (after_high : Bool) (bytes : List ℕ) (read : ℕ) (us : List ℕ) (state : Bool) : Type 0 where
  pub points : List ℕ
  pub items : wtf8_items after_high bytes ≡ map Char points ++ wtf8_items state (drop read bytes)
  pub units : encode Utf16 points ≡ us
  pub before : read ≡ length (utf8 points)

-- The bytes begin with a fault.
pub record BeginsWithFault (state : Bool) (bytes : List ℕ) (len : ℕ) : Type 0 where
  pub unit : ℕ
  pub some : 0 < len
  pub within : len ≤ length bytes
  pub items : wtf8_items state bytes ≡ Fault unit ∷ wtf8_items state (drop len bytes)

-- What follows a part, where there is space for `room` more units.
abbrev pub IsNext : Bool → List ℕ → ℕ → Next → Type 0
IsNext state rest room End = rest ≡ []
IsNext state rest room More = (0 < length rest) × (room < 2)
IsNext state rest room (AtFault len) = BeginsWithFault state rest len

-- What follows a part of `read` bytes.
abbrev pub IsNextOf : Bool → List ℕ → ℕ → Next → Type 0
IsNextOf state rest read End = rest ≡ []
IsNextOf state rest read More = 0 < read
IsNextOf state rest read (AtFault len) = BeginsWithFault state rest len

-- What a stop of decoding means where more bytes follow.
abbrev pub next_within : DecodeStop → Next
next_within AtEnd = More
next_within NoSpace = More
next_within Incomplete = More
next_within (StopFault unit len) = AtFault len
