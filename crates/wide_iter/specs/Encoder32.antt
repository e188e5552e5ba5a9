-- What an encoder to UTF-32 will yield.
use Rattle.std.specs.Prelude.{◌≡◌, ℕ, false, List}
use Rattle.std.specs.Iterator.{Count}
use Rattle.wide_forms.specs.EncodingForm.{Utf32, encode}
use Rattle.wide_iter.specs.Source.{has_ended, left_in_source, CanAsk, source_count}
use Rattle.wide_iter.specs.declared.source.Source.{Source}
use Rattle.wide_iter.specs.declared.encode32.EncodeUtf32.{EncodeUtf32}

module _ {I : Type 0} where
  -- The source of an encoder.
  abbrev pub source_of : EncodeUtf32 I → Source I
  source_of s = s.source

  -- The units of the characters that are left.
  abbrev pub units_left : (I → List ℕ) → EncodeUtf32 I → List ℕ
  units_left rest s = encode Utf32 (left_in_source rest (source_of s))

  -- The source may be called, unless it has ended.
  abbrev pub CanEncode : (I → Type 0) → EncodeUtf32 I → Type 0
  CanEncode can s = CanAsk can (source_of s)

  -- As many units will be yielded as characters are left.
  abbrev pub encoder_count : (I → Count) → EncodeUtf32 I → Count
  encoder_count count s = source_count count (source_of s)

  -- The source may be called.
  pub record IsNew (s : EncodeUtf32 I) : Type 0 where
    pub asked : has_ended (source_of s) ≡ false
