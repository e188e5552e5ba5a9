-- The characters of a `str` are scalar values, and so are those that are selected from well-formed units: their
-- encoding is well formed.
use Rattle.std.proofs.Common.{◌≡◌, ℕ, suc, zero, List, [], ◌∷◌, true, ap, ◌∙◌, subst, arith}
use Rattle.std.specs.Char.{IsScalar}
use Rattle.std.specs.List.{All, Contains}
use Rattle.std.specs.Prelude.{slice_index_or}
use Rattle.std.specs.Str.{IsUtf8, all_scalars}
use Rattle.std.specs.Str.{chars as str_chars}
use Rattle.std.proofs.lemmas.Bool.{and_parts}
use Rattle.std.proofs.lemmas.List.{get_or_default}
use Rattle.std.proofs.lemmas.Str.{encodes-chars}
use Rattle.std.proofs.lemmas.Str.{scalars-chars as all_scalars-chars}
use Rattle.wide_forms.specs.EncodingForm.{EncodingForm, encode}
use Rattle.wide_forms.specs.Items.{chars, IsWellFormed}
use Rattle.wide_forms.specs.Utf8.{utf8}
use Rattle.wide_forms.specs.Laws.Utf8.{utf8-encode_utf8_all}
use Rattle.wide_forms.specs.Laws.Offsets.{chars-encode, IsWellFormed-encode, scalars-chars}

-- The test of std for scalar values says that each number is one.
pub All-of_all_scalars : (cs : List ℕ) → all_scalars cs ≡ true → All IsScalar cs
All-of_all_scalars [] h k d within = absurd (omega (arith, within))
All-of_all_scalars (c ∷ cs) h zero d within = (and_parts _ _ h).0
All-of_all_scalars (c ∷ cs) h (suc k) d within = All-of_all_scalars cs (and_parts _ _ h).1 k d (omega (arith, within))

-- The characters of a `str` are scalar values.
pub scalars-text : (bs : List ℕ) → IsUtf8 bs → All IsScalar (str_chars bs)
scalars-text bs text = All-of_all_scalars (str_chars bs) (all_scalars-chars bs text)

module _ (form : EncodingForm) (bs : List ℕ) (text : IsUtf8 bs) where
  -- The encoding of a `str` in units is well formed.
  pub IsWellFormed-text : IsWellFormed form (encode form (str_chars bs))
  IsWellFormed-text = IsWellFormed-encode form (str_chars bs) (scalars-text bs text)

  -- The encoding of a `str` in units has its characters.
  pub chars-text : chars form (encode form (str_chars bs)) ≡ str_chars bs
  chars-text = chars-encode form (str_chars bs) (scalars-text bs text)

  -- Encoding the text in units and decoding them yields the text.
  pub text-back : utf8 (chars form (encode form (str_chars bs))) ≡ bs
  text-back = ap utf8 chars-text ∙ utf8-encode_utf8_all (str_chars bs) ∙ encodes-chars bs text

-- Characters that are selected from those of well-formed units are scalar values.
pub scalars-picked : (form : EncodingForm) (us picked : List ℕ) → IsWellFormed form us → ((c : ℕ) → Contains picked c → Contains (chars form us) c) → All IsScalar picked
scalars-picked form us picked well are k d within =
    let c = slice_index_or picked k d in
    let at = are c (k, within, get_or_default picked k c d within) in
    subst IsScalar at.2 (scalars-chars form us well at.0 c at.1)
