-- WTF-8: the bytes of 16-bit units that may be ill formed, in which nothing is lost. It is UTF-8 (the Standard's D92) of
-- the characters, and a surrogate that belongs to no pair has the three bytes of its code point (D10).
use Rattle.std.specs.Prelude.{◌≡◌, ℕ, List}
use Rattle.std.specs.List.{All}
use Rattle.wide_forms.specs.EncodingForm.{Utf16, IsCodeUnit}
use Rattle.wide_forms.specs.Utf8.{utf8}
use Rattle.wide_unit.specs.CodePoints.{code_points}

-- The bytes of 16-bit units.
abbrev pub wtf8 : List ℕ → List ℕ
wtf8 us = utf8 (code_points Utf16 us)

-- The bytes are those of some 16-bit units.
pub record IsWtf8 (bs : List ℕ) : Type 0 where
  pub units : List ℕ
  pub sixteen_bits : All (IsCodeUnit Utf16) units
  pub bytes : bs ≡ wtf8 units
