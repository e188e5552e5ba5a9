-- Runs of code points in WTF-8, and what follows a run of UTF-8 there.
use Rattle.std.specs.Prelude.{◌≡◌, ℕ, ◌<◌, ◌≤◌, Bool, true, false, List, ◌++◌, drop, length, map}
use Rattle.std.specs.Char.{IsScalar}
use Rattle.std.specs.List.{All}
use Rattle.wide_forms.specs.EncodingForm.{Utf16, encode}
use Rattle.wide_forms.specs.Searches.{is_surrogate}
use Rattle.wide_forms.specs.Segmentation.{Char}
use Rattle.wide_forms.specs.Utf8.{utf8, utf8_bytes}
use Rattle.wide_schemes.specs.ItemLaws.{point_items}
use Rattle.wide_schemes.specs.Layouts.{BeginsPoint, StopsBefore}
use Rattle.wide_schemes.specs.Wtf8Items.{IsCodePoint, ends_in_high, point_item}
use Rattle.wide_schemes.specs.declared.layout.Layout.TheVariants.{Wtf8}
use Rattle.wide_schemes.specs.declared.wtf8.HalfAt.{HalfAt}
use Rattle.wide_schemes.specs.declared.wtf8.HalfAt.TheVariants.{Whole, Part, Nothing}
use Rattle.wide_schemes.specs.declared.wtf8.AfterText.{AfterText}
use Rattle.wide_schemes.specs.declared.wtf8.AfterText.TheVariants.{Half, Stop}

-- The first `read` bytes are those of code points, none of which is the second half of a pair after the first, and `us`
-- are their units. If surrogates are not kept, all are scalar values.
pub record IsPointRun (keeps after_high : Bool) (bytes : List ℕ) (read : ℕ) (us : List ℕ) (after_high' : Bool) : Type 0 where
  pub codes : List ℕ
  pub bound : All IsCodePoint codes
  pub scalars : keeps ≡ false → All IsScalar codes
  pub apart : point_items after_high codes ≡ map Char codes
  pub units : encode Utf16 codes ≡ us
  pub state : ends_in_high after_high (map Char codes) ≡ after_high'
  pub whole : (more : List ℕ) → bytes ++ more ≡ utf8 codes ++ (drop read bytes ++ more)

-- The bytes begin with those of a surrogate.
pub record BeginsWithHalf (bytes : List ℕ) (u : ℕ) : Type 0 where
  pub half : is_surrogate u ≡ true
  pub within : 3 ≤ length bytes
  pub whole : bytes ≡ utf8_bytes u ++ drop 3 bytes

-- The bytes do not begin with those of a surrogate.
abbrev pub StartsWithNoHalf : List ℕ → Type 0
StartsWithNoHalf bytes = (u : ℕ) (rest : List ℕ) → is_surrogate u ≡ true → ¬ (bytes ≡ utf8_bytes u ++ rest)

-- What the bytes begin with. Where they begin with no surrogate, none is there whatever follows them.
abbrev pub IsHalfAt : List ℕ → HalfAt → Type 0
IsHalfAt bytes (Whole u) = BeginsWithHalf bytes u
IsHalfAt bytes Part = (length bytes < 3) × BeginsPoint bytes
IsHalfAt bytes Nothing = (more : List ℕ) → StartsWithNoHalf (bytes ++ more)

-- What follows a run of UTF-8.
abbrev pub IsAfterText : Bool → Bool → List ℕ → Bool → ℕ → AfterText → Type 0
IsAfterText keeps after_high rest last room (Half u) = (keeps ≡ true) × (point_item after_high u ≡ Char u) × BeginsWithHalf rest u
IsAfterText keeps after_high rest last room (Stop stop) = StopsBefore Wtf8 keeps after_high rest last room stop
