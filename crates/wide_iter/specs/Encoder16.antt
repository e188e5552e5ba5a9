-- What an encoder to UTF-16 will yield.
use Rattle.std.specs.Prelude.{◌≡◌, ℕ, ◌+◌, ◌*◌, false, List, ◌++◌, Option, None}
use Rattle.std.specs.Option.{option_to_list, option_len}
use Rattle.std.specs.Iterator.{Count, count_map}
use Rattle.wide_forms.specs.EncodingForm.{Utf16, encode}
use Rattle.wide_iter.specs.Source.{has_ended, left_in_source, CanAsk, source_count}
use Rattle.wide_iter.specs.declared.source.Source.{Source}
use Rattle.wide_iter.specs.declared.encode16.EncodeUtf16.{EncodeUtf16}

module _ {I : Type 0} where
  -- The source of an encoder.
  abbrev pub source_of : EncodeUtf16 I → Source I
  source_of s = s.source

  -- The pending unit of a pair, if there is one.
  abbrev pub unit_in_lookahead : EncodeUtf16 I → Option ℕ
  unit_in_lookahead s = s.second

  -- The units that will be yielded: the pending one, and those of the characters that are left.
  abbrev pub units_left : (I → List ℕ) → EncodeUtf16 I → List ℕ
  units_left rest s = option_to_list (unit_in_lookahead s) ++ encode Utf16 (left_in_source rest (source_of s))

  -- The source may be called, unless it has ended.
  abbrev pub CanEncode : (I → Type 0) → EncodeUtf16 I → Type 0
  CanEncode can s = CanAsk can (source_of s)

  -- At most two units will be yielded for each character, and the pending one.
  abbrev pub encoder_count : (I → Count) → EncodeUtf16 I → Count
  encoder_count count s = count_map (λ n. n * 2 + option_len (unit_in_lookahead s)) (source_count count (source_of s))

  -- No unit is pending, and the source may be called.
  pub record IsNew (s : EncodeUtf16 I) : Type 0 where
    pub asked : has_ended (source_of s) ≡ false
    pub lookahead : unit_in_lookahead s ≡ None
