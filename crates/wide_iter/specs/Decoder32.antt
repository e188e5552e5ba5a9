-- What a decoder of UTF-32 will yield.
use Rattle.std.specs.Prelude.{ℕ, List}
use Rattle.std.specs.Iterator.{Count}
use Rattle.wide_forms.specs.EncodingForm.{Utf32}
use Rattle.wide_forms.specs.Segmentation.{Item}
use Rattle.wide_forms.specs.Items.{items}
use Rattle.wide_iter.specs.Source.{left_in_source, CanAsk, source_count}
use Rattle.wide_iter.specs.declared.source.Source.{Source}
use Rattle.wide_iter.specs.declared.decode32.DecodeUtf32.{DecodeUtf32}

module _ {I : Type 0} where
  -- The source of a decoder, which has no lookahead.
  abbrev pub source32_of : DecodeUtf32 I → Source I
  source32_of s = s.source

  -- The items that will be yielded.
  abbrev pub items32_left : (I → List ℕ) → DecodeUtf32 I → List Item
  items32_left rest s = items Utf32 (left_in_source rest (source32_of s))

  -- The source may be called, unless it has ended.
  abbrev pub CanDecode32 : (I → Type 0) → DecodeUtf32 I → Type 0
  CanDecode32 can s = CanAsk can (source32_of s)

  -- As many items will be yielded as units are left.
  abbrev pub decoder32_count : (I → Count) → DecodeUtf32 I → Count
  decoder32_count count s = source_count count (source32_of s)
