-- What an encoder to UTF-8 will yield.
use Rattle.std.specs.Prelude.{◌≡◌, ℕ, ◌+◌, ◌*◌, false, List, [], ◌∷◌, ◌++◌, length}
use Rattle.std.specs.Iterator.{Count, count_map}
use Rattle.wide_forms.specs.Utf8.{utf8}
use Rattle.wide_iter.specs.Source.{has_ended, left_in_source, CanAsk, source_count}
use Rattle.wide_iter.specs.declared.source.Source.{Source}
use Rattle.wide_iter.specs.declared.encode8.EncodeUtf8.{EncodeUtf8}
use Rattle.wide_iter.specs.declared.encode8.Pending.{Pending}
use Rattle.wide_iter.specs.declared.encode8.Pending.TheVariants.{Zero, One, Two, Three}

-- The bytes of a character that are pending.
abbrev pub pending_bytes : Pending → List ℕ
pending_bytes Zero = []
pending_bytes (One a) = a ∷ []
pending_bytes (Two a b) = a ∷ b ∷ []
pending_bytes (Three a b c) = a ∷ b ∷ c ∷ []

module _ {I : Type 0} where
  -- The source of an encoder.
  abbrev pub source_of : EncodeUtf8 I → Source I
  source_of s = s.source

  -- The pending bytes of an encoder.
  abbrev pub bytes_in_lookahead : EncodeUtf8 I → List ℕ
  bytes_in_lookahead s = pending_bytes s.pending

  -- The bytes that will be yielded: the pending ones, and those of the characters that are left.
  abbrev pub bytes_left : (I → List ℕ) → EncodeUtf8 I → List ℕ
  bytes_left rest s = bytes_in_lookahead s ++ utf8 (left_in_source rest (source_of s))

  -- The source may be called, unless it has ended.
  abbrev pub CanEncode : (I → Type 0) → EncodeUtf8 I → Type 0
  CanEncode can s = CanAsk can (source_of s)

  -- At most four bytes will be yielded for each character, and the pending ones.
  abbrev pub encoder_count : (I → Count) → EncodeUtf8 I → Count
  encoder_count count s = count_map (λ n. n * 4 + length (bytes_in_lookahead s)) (source_count count (source_of s))

  -- No byte is pending, and the source may be called.
  pub record IsNew (s : EncodeUtf8 I) : Type 0 where
    pub asked : has_ended (source_of s) ≡ false
    pub lookahead : bytes_in_lookahead s ≡ []
