-- What lossy decoders will yield: the lossy characters of the items that a strict decoder will yield.
use Rattle.std.specs.Prelude.{ℕ, List}
use Rattle.wide_forms.specs.Lossy.{lossy}
use Rattle.wide_iter.specs.Decoder16.{items_left}
use Rattle.wide_iter.specs.Decoder32.{items32_left}
use Rattle.wide_iter.specs.declared.decode16.DecodeUtf16.{DecodeUtf16}
use Rattle.wide_iter.specs.declared.decode32.DecodeUtf32.{DecodeUtf32}
use Rattle.wide_iter.specs.declared.lossy.DecodeUtf16Lossy.{DecodeUtf16Lossy}
use Rattle.wide_iter.specs.declared.lossy.DecodeUtf32Lossy.{DecodeUtf32Lossy}

module _ {I : Type 0} where
  -- The strict decoder of UTF-16 whose items are made lossy.
  abbrev pub strict16_of : DecodeUtf16Lossy I → DecodeUtf16 I
  strict16_of s = s.utf16

  -- The strict decoder of UTF-32 whose items are made lossy.
  abbrev pub strict32_of : DecodeUtf32Lossy I → DecodeUtf32 I
  strict32_of s = s.utf32

  -- The characters that a decoder of UTF-16 will yield.
  abbrev pub lossy16_left : (I → List ℕ) → DecodeUtf16Lossy I → List ℕ
  lossy16_left rest s = lossy (items_left rest (strict16_of s))

  -- The characters that a decoder of UTF-32 will yield.
  abbrev pub lossy32_left : (I → List ℕ) → DecodeUtf32Lossy I → List ℕ
  lossy32_left rest s = lossy (items32_left rest (strict32_of s))
