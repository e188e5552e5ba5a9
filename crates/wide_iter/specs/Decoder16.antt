-- What a decoder of UTF-16 will yield.
use Rattle.std.specs.Prelude.{◌≡◌, ℕ, ◌+◌, ◌^◌, nat_lt, true, false, List, ◌++◌, Option, Some, None, if◌then◌else◌}
use Rattle.std.specs.Option.{option_to_list, option_len}
use Rattle.std.specs.Iterator.{Count, count_map}
use Rattle.wide_forms.specs.EncodingForm.{Utf16}
use Rattle.wide_forms.specs.Segmentation.{Item}
use Rattle.wide_forms.specs.Items.{items}
use Rattle.wide_iter.specs.Source.{has_ended, left_in_source, CanAsk, source_count}
use Rattle.wide_iter.specs.declared.source.Source.{Source}
use Rattle.wide_iter.specs.declared.decode16.DecodeUtf16.{DecodeUtf16}

module _ {I : Type 0} where
  -- The source of a decoder.
  abbrev pub source_of : DecodeUtf16 I → Source I
  source_of s = s.source

  -- The unit in the lookahead at the front, if there is one.
  abbrev pub front_lookahead : DecodeUtf16 I → Option ℕ
  front_lookahead s = s.front

  -- The unit in the lookahead at the back, if there is one.
  abbrev pub back_lookahead : DecodeUtf16 I → Option ℕ
  back_lookahead s = s.back

  -- The units that are left: the one in the lookahead at the front, those of the source, and the one in the lookahead
  -- at the back.
  abbrev pub units_left : (I → List ℕ) → DecodeUtf16 I → List ℕ
  units_left rest s = option_to_list (front_lookahead s) ++ left_in_source rest (source_of s) ++ option_to_list (back_lookahead s)

  -- The items that will be yielded.
  abbrev pub items_left : (I → List ℕ) → DecodeUtf16 I → List Item
  items_left rest s = items Utf16 (units_left rest s)

  -- The source may be called, unless it has ended.
  abbrev pub CanDecode : (I → Type 0) → DecodeUtf16 I → Type 0
  CanDecode can s = CanAsk can (source_of s)

  -- The number of units in the lookahead.
  abbrev pub pending : DecodeUtf16 I → ℕ
  pending s = option_len (front_lookahead s) + option_len (back_lookahead s)

  -- At most as many items will be yielded as units are left.
  abbrev pub decoder_count : (I → Count) → DecodeUtf16 I → Count
  decoder_count count s = count_map (λ n. n + pending s) (source_count count (source_of s))

  -- Nothing is left, in the lookahead or the source.
  pub record IsSpent (s : DecodeUtf16 I) : Type 0 where
    pub ended : has_ended (source_of s) ≡ true
    pub front : front_lookahead s ≡ None
    pub back : back_lookahead s ≡ None

  -- The lookahead is empty, and the source may be called.
  pub record IsNew (s : DecodeUtf16 I) : Type 0 where
    pub asked : has_ended (source_of s) ≡ false
    pub front : front_lookahead s ≡ None
    pub back : back_lookahead s ≡ None

-- The sum of an upper bound and `more`, if it fits into a `usize`.
abbrev pub upper_with : Option ℕ → ℕ → Option ℕ
upper_with None more = None
upper_with (Some upper) more = if nat_lt (upper + more) (2 ^ 64) then Some (upper + more) else None
