-- What lossy decoders of UTF-16 and UTF-32 under a policy will yield.
use Rattle.std.specs.Prelude.{◌≡◌, ℕ, false, List}
use Rattle.std.specs.Iterator.{Count}
use Rattle.wide_iter.specs.Source.{inner_of, has_ended}
use Rattle.wide_iter.specs.Decoder16.{items_left, CanDecode, decoder_count, IsNew, source_of}
use Rattle.wide_iter.specs.Decoder32.{items32_left, CanDecode32, decoder32_count, source32_of}
use Rattle.wide_iter.specs.LossyWith.{lossy_source, lossy_with_left, lossy_with_count, CanAskAll, IsUnread}
use Rattle.wide_iter.specs.declared.decode16.DecodeUtf16.{DecodeUtf16}
use Rattle.wide_iter.specs.declared.decode32.DecodeUtf32.{DecodeUtf32}
use Rattle.wide_iter.specs.declared.lossy_with.LossyWith.{LossyWith}
use Rattle.wide_iter.specs.declared.lossy_decoders.DecodeUtf16LossyWith.{DecodeUtf16LossyWith}
use Rattle.wide_iter.specs.declared.lossy_decoders.DecodeUtf32LossyWith.{DecodeUtf32LossyWith}

module _ {I : Type 0} where
  -- The iterator over the lossy characters of a decoder of UTF-16.
  abbrev pub chars16_of : DecodeUtf16LossyWith I → LossyWith (DecodeUtf16 I)
  chars16_of s = s.chars

  -- The iterator over the lossy characters of a decoder of UTF-32.
  abbrev pub chars32_of : DecodeUtf32LossyWith I → LossyWith (DecodeUtf32 I)
  chars32_of s = s.chars

  -- The source of the units that a decoder of UTF-16 reads.
  abbrev pub units16_of : DecodeUtf16LossyWith I → I
  units16_of s = inner_of (source_of (inner_of (lossy_source (chars16_of s))))

  -- The source of the units that a decoder of UTF-32 reads.
  abbrev pub units32_of : DecodeUtf32LossyWith I → I
  units32_of s = inner_of (source32_of (inner_of (lossy_source (chars32_of s))))

  -- The characters that a decoder of UTF-16 will yield.
  abbrev pub lossy16_with_left : (I → List ℕ) → DecodeUtf16LossyWith I → List ℕ
  lossy16_with_left rest s = lossy_with_left (items_left rest) (chars16_of s)

  -- The characters that a decoder of UTF-32 will yield.
  abbrev pub lossy32_with_left : (I → List ℕ) → DecodeUtf32LossyWith I → List ℕ
  lossy32_with_left rest s = lossy_with_left (items32_left rest) (chars32_of s)

  -- The source of a decoder of UTF-16 may be called, unless it has ended, and it is finite.
  abbrev pub CanDecode16With : (I → Type 0) → (I → Count) → DecodeUtf16LossyWith I → Type 0
  CanDecode16With can count s = CanAskAll (CanDecode can) (decoder_count count) (lossy_source (chars16_of s))

  -- The source of a decoder of UTF-32 may be called, unless it has ended, and it is finite.
  abbrev pub CanDecode32With : (I → Type 0) → (I → Count) → DecodeUtf32LossyWith I → Type 0
  CanDecode32With can count s = CanAskAll (CanDecode32 can) (decoder32_count count) (lossy_source (chars32_of s))

  -- At most as many characters will be yielded as a decoder of UTF-16 has items and characters left.
  abbrev pub lossy16_with_count : (I → Count) → DecodeUtf16LossyWith I → Count
  lossy16_with_count count s = lossy_with_count (decoder_count count) (chars16_of s)

  -- At most as many characters will be yielded as a decoder of UTF-32 has items and characters left.
  abbrev pub lossy32_with_count : (I → Count) → DecodeUtf32LossyWith I → Count
  lossy32_with_count count s = lossy_with_count (decoder32_count count) (chars32_of s)

  -- The decoder of UTF-16 has read nothing yet.
  abbrev pub IsNew16With : DecodeUtf16LossyWith I → Type 0
  IsNew16With s = IsUnread (chars16_of s) × IsNew (inner_of (lossy_source (chars16_of s)))

  -- The decoder of UTF-32 has read nothing yet.
  abbrev pub IsNew32With : DecodeUtf32LossyWith I → Type 0
  IsNew32With s = IsUnread (chars32_of s) × (has_ended (source32_of (inner_of (lossy_source (chars32_of s)))) ≡ false)
