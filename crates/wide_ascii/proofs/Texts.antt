-- ASCII letters in the other case in well-formed text. A surrogate is no ASCII, so each pair stays one.
use Rattle.std.proofs.Common.{◌≡◌, ℕ, ◌<◌, ◌≤◌, List, [], ◌∷◌, ◌++◌, map, get_or, arith, refl, sym, ap, subst, ◌∙◌, inl, inr}
use Rattle.std.specs.Char.{IsScalar, to_ascii_lowercase, to_ascii_uppercase}
use Rattle.std.specs.List.{All}
use Rattle.std.proofs.lemmas.Bool.{cases_lt}
use Rattle.std.proofs.lemmas.Str.Ascii.{lowercase_ascii, lowercase_is, uppercase_ascii, uppercase_is}
use Rattle.std.proofs.Math.Utf8.{low_scalar}
use Rattle.std.proofs.Math.ListN.{get_or-map}
use Rattle.std.proofs.lemmas.List.{map-append, length-map}
use Rattle.std.proofs.lemmas.List.Elements.{All-map, All-weaker}
use Rattle.wide_forms.specs.EncodingForm.{EncodingForm, Utf16, Utf32, code_units, encode, IsLowSurrogate}
use Rattle.wide_forms.specs.Items.{chars, IsWellFormed}
use Rattle.wide_forms.specs.Offsets.{IsCharBoundary}
use Rattle.wide_unit.specs.Nul.{IsFirstNul}
use Rattle.wide_forms.specs.Laws.Forms.{one_unit, two_units, high_of, low_of}
use Rattle.wide_forms.specs.Laws.Offsets.{chars-encode, encode-chars, IsWellFormed-encode, scalars-chars}

-- A function that maps ASCII to ASCII, NUL alone to NUL, and every other number to itself.
pub record IsOfAscii (f : ℕ → ℕ) : Type 0 where
  pub ascii : (c : ℕ) → c < 128 → f c < 128
  pub other : (c : ℕ) → 128 ≤ c → f c ≡ c
  pub nul : f 0 ≡ 0
  pub nul_alone : (c : ℕ) → f c ≡ 0 → c ≡ 0

pub lowercase-of_ascii : IsOfAscii to_ascii_lowercase
lowercase-of_ascii = record {
  ascii = lowercase_ascii;
  other = λ c past. (lowercase_is c).2 (omega (arith, past));
  nul = refl;
  nul_alone = λ c nul. elim (cases_lt c 65) [
    | inl below ↦ sym ((lowercase_is c).1 below) ∙ nul
    | inr from ↦ elim (cases_lt 90 c) [ inl past ↦ sym ((lowercase_is c).2 past) ∙ nul | inr to ↦ absurd (omega (arith, (lowercase_is c).0 (from, to), nul)) ]
  ];
}

pub uppercase-of_ascii : IsOfAscii to_ascii_uppercase
uppercase-of_ascii = record {
  ascii = uppercase_ascii;
  other = λ c past. (uppercase_is c).2 (omega (arith, past));
  nul = refl;
  nul_alone = λ c nul. elim (cases_lt c 97) [
    | inl below ↦ sym ((uppercase_is c).1 below) ∙ nul
    | inr from ↦ elim (cases_lt 122 c) [ inl past ↦ sym ((uppercase_is c).2 past) ∙ nul | inr to ↦ absurd (omega (arith, (uppercase_is c).0 (from, to), nul)) ]
  ];
}

module _ (f : ℕ → ℕ) (of_ascii : IsOfAscii f) where
  at-mapped : (us : List ℕ) (k : ℕ) → get_or (map f us) k 0 ≡ f (get_or us k 0)
  at-mapped us k = ap (get_or (map f us) k) (sym of_ascii.nul) ∙ get_or-map f us k 0

  -- Mapping leaves the first NUL where it is.
  pub IsFirstNul-mapped : (us : List ℕ) (at : ℕ) → IsFirstNul us at → IsFirstNul (map f us) at
  IsFirstNul-mapped us at is = record {
    at = (omega (arith, is.at.0, length-map us f), at-mapped us at ∙ ap f is.at.1 ∙ of_ascii.nul);
    before = λ earlier below nul. is.before earlier below (omega (arith, nul.0, length-map us f), of_ascii.nul_alone _ (sym (at-mapped us earlier) ∙ nul.1));
  }

  past-low : (form : EncodingForm) (u : ℕ) → IsLowSurrogate form u → 128 ≤ u
  past-low Utf16 u low = omega (arith, low.0)
  past-low Utf32 u low = absurd low

  -- A boundary of mapped units is one of the units.
  pub IsCharBoundary-of_mapped : (form : EncodingForm) (us : List ℕ) (at : ℕ) → IsCharBoundary form (map f us) at → IsCharBoundary form us at
  IsCharBoundary-of_mapped form us at is = (
    omega (arith, is.0, length-map us f),
    λ some below low. is.1 some (omega (arith, below, length-map us f)) (subst (IsLowSurrogate form) (sym (at-mapped us at ∙ of_ascii.other (get_or us at 0) (past-low form (get_or us at 0) low))) low),
  )

  units-mapped : (form : EncodingForm) (c : ℕ) → map f (code_units form c) ≡ code_units form (f c)
  units-mapped Utf32 c = refl
  units-mapped Utf16 c =
      elim (cases_lt c 128) [
        | inl ascii ↦ ap (map f) (one_unit c (omega (arith, ascii))) ∙ sym (one_unit (f c) (omega (arith, of_ascii.ascii c ascii)))
        | inr past ↦ elim (cases_lt c 0x1_0000) [
          | inl one ↦ ap (map f) (one_unit c one) ∙ ap (λ x. x ∷ []) (of_ascii.other c past) ∙ sym (ap (code_units Utf16) (of_ascii.other c past) ∙ one_unit c one)
          | inr two ↦ ap (map f) (two_units c two) ∙ ap (λ h. h ∷ f (low_of c) ∷ []) (of_ascii.other (high_of c) (omega arith)) ∙ ap (λ l. high_of c ∷ l ∷ []) (of_ascii.other (low_of c) (omega arith)) ∙ sym (ap (code_units Utf16) (of_ascii.other c past) ∙ two_units c two)
        ]
      ]

  encode-mapped : (form : EncodingForm) (cs : List ℕ) → encode form (map f cs) ≡ map f (encode form cs)
  encode-mapped form [] = refl
  encode-mapped form (c ∷ cs) =
      ap (λ us. us ++ encode form (map f cs)) (sym (units-mapped form c)) ∙ ap (λ us. map f (code_units form c) ++ us) (encode-mapped form cs) ∙ sym (map-append f (code_units form c) (encode form cs))

  scalar-mapped : (c : ℕ) → IsScalar c → IsScalar (f c)
  scalar-mapped c scalar = elim (cases_lt c 128) [
    | inl ascii ↦ low_scalar (f c) (omega (arith, of_ascii.ascii c ascii))
    | inr past ↦ subst IsScalar (sym (of_ascii.other c past)) scalar
  ]

  module _ (form : EncodingForm) (us : List ℕ) (well : IsWellFormed form us) where
    scalars-mapped : All IsScalar (map f (chars form us))
    scalars-mapped = All-map IsScalar f (chars form us) (All-weaker IsScalar (λ c. IsScalar (f c)) scalar-mapped (chars form us) (scalars-chars form us well))

    mapped : encode form (map f (chars form us)) ≡ map f us
    mapped = encode-mapped form (chars form us) ∙ ap (map f) (encode-chars form us well)

    -- Mapping leaves well-formed units well formed.
    pub IsWellFormed-mapped : IsWellFormed form (map f us)
    IsWellFormed-mapped = subst (IsWellFormed form) mapped (IsWellFormed-encode form (map f (chars form us)) scalars-mapped)

    pub chars-mapped : chars form (map f us) ≡ map f (chars form us)
    chars-mapped = ap (chars form) (sym mapped) ∙ chars-encode form (map f (chars form us)) scalars-mapped
