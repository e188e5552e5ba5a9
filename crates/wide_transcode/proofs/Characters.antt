-- The number of characters in units, by the length of their UTF-8.
use Rattle.std.proofs.Common.{◌≡◌, ℕ, ◌+◌, ◌*◌, ◌<◌, ◌≤◌, List, [], ◌∷◌, inl, inr, length, length-append, get_or, sym, ap, ◌∙◌, subst, arith}
use Rattle.std.specs.Char.{IsScalar}
use Rattle.std.proofs.lemmas.Bool.{cases_lt}
use Rattle.wide_forms.specs.EncodingForm.{Utf16, code_units, encode}
use Rattle.wide_forms.specs.Items.{chars, items, IsWellFormed}
use Rattle.wide_forms.specs.Utf8.{utf8, utf8_bytes}
use Rattle.wide_forms.specs.Laws.Forms.{one_unit, two_units}
use Rattle.wide_forms.specs.Laws.Offsets.{chars-encode, IsWellFormed-encode}
use Rattle.wide_forms.specs.Laws.Utf8.{one_byte, two_bytes, three_bytes, four_bytes}
use Rattle.wide_forms.specs.Laws.Items.{items-encode}
use Rattle.wide_forms.specs.Laws.LowSurrogates.{low-encode}
use Rattle.wide_utf16_to_utf8.specs.Encoded.{EncodedUnits}
use Rattle.wide_transcode.specs.Lossied.{IsText}

-- Each character has at least a byte for each unit, and a pair two more.
bytes-character : (c : ℕ) → 2 * length (code_units Utf16 c) ≤ length (utf8_bytes c) + 1
bytes-character c = elim (cases_lt c 0x80) [
  | inl below ↦ rw (one_byte c below, one_unit c (omega arith)) (omega arith)
  | inr from_80 ↦ elim (cases_lt c 0x800) [
    | inl below ↦ rw (two_bytes c from_80 below, one_unit c (omega arith)) (omega arith)
    | inr from_800 ↦ elim (cases_lt c 0x1_0000) [
      | inl below ↦ rw (three_bytes c from_800 below, one_unit c below) (omega arith)
      | inr from ↦ rw (four_bytes c from, two_units c from) (omega arith)
    ]
  ]
]

bytes-characters : (cs : List ℕ) → 2 * length (encode Utf16 cs) ≤ length (utf8 cs) + length cs
bytes-characters [] = omega arith
bytes-characters (c ∷ cs) =
    omega (arith, bytes-character c, bytes-characters cs, length-append (code_units Utf16 c) (encode Utf16 cs), length-append (utf8_bytes c) (utf8 cs))

-- A text never has more characters than units.
few-characters : (cs : List ℕ) → ((k d : ℕ) → k < length cs → IsScalar (get_or cs k d)) → length cs ≤ length (encode Utf16 cs)
few-characters cs scalars = omega (arith, low-encode cs scalars)

module _ (us text : List ℕ) (e : EncodedUnits us [] text) where
  pub encoded-characters : chars Utf16 us ≡ e.cs
  encoded-characters = ap (λ vs. chars Utf16 vs) e.units ∙ chars-encode Utf16 e.cs e.scalars

  length-characters : length (chars Utf16 us) ≡ length e.cs
  length-characters = ap length encoded-characters

  -- Encoded units have no more characters than units.
  pub few-encoded : length (chars Utf16 us) ≤ length us
  few-encoded = omega (arith, length-characters, ap length e.units, few-characters e.cs e.scalars)

  pub well-formed : IsWellFormed Utf16 us
  well-formed = subst (IsWellFormed Utf16) (sym e.units) (IsWellFormed-encode Utf16 e.cs e.scalars)

  -- If there are as many bytes as units, there are as many characters.
  pub length-ascii : length text ≡ length us → length us ≡ length (chars Utf16 us)
  length-ascii same = omega (arith, length-characters, ap length e.units, ap length e.text, bytes-characters e.cs, few-characters e.cs e.scalars)

  pub text-of_encoded : IsText us (length (chars Utf16 us))
  text-of_encoded = (e.cs, ap (λ vs. items Utf16 vs) e.units ∙ items-encode Utf16 e.cs e.scalars, length-characters)
