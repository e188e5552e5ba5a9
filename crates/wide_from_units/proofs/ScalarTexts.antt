-- The UTF-8 of scalar values: how it grows, and that of scalar values that are 16-bit units.
use Rattle.std.proofs.Common.{◌≡◌, ℕ, suc, inl, inr, ◌+◌, ◌/◌, ◌%◌, ◌^◌, ◌<◌, ◌≤◌, List, [], ◌∷◌, ◌++◌, length, get_or, take, drop, refl, sym, ap, ◌∙◌, subst, arith, append_assoc, drop-cons, take-add}
use Rattle.std.specs.Char.{IsScalar}
use Rattle.std.specs.List.{All}
use Rattle.std.proofs.lemmas.Bool.{cases_lt}
use Rattle.std.proofs.lemmas.List.{append-nil}
use Rattle.std.proofs.lemmas.List.Concat.{flat_map-append}
use Rattle.wide_forms.specs.EncodingForm.{EncodingForm, Utf16, Utf32, encode}
use Rattle.wide_forms.specs.Items.{IsWellFormed, chars}
use Rattle.wide_forms.specs.Utf8.{utf8, utf8_bytes, trailing_byte}
use Rattle.wide_forms.specs.Laws.Boundaries.{IsBoundary-at}
use Rattle.wide_forms.specs.Laws.Forms.{ranges}
use Rattle.wide_forms.specs.Laws.Offsets.{IsWellFormed-take, chars-encode, scalars-chars}
use Rattle.wide_forms.specs.Laws.Utf32.{chars32-well_formed}
use Rattle.wide_forms.specs.Laws.Utf8.{four_bytes}
use Rattle.wide_utf16_to_utf8.specs.Encoded.{EncodedUnits, IsWordOf}
use Rattle.wide_from_units.specs.Scalars.{IsScalarLen, IsScalarWord}
use Rattle.wide_utf16_to_utf8.proofs.EncodedPrefixes.{IsPrefixText, prefix_text-boundary}
use Rattle.wide_utf16_to_utf8.proofs.Lanes.{encoded-ascii}
use Rattle.wide_utf16_to_utf8.proofs.UnitEncodings.{one_unit-plain}
use Rattle.wide_utf16_to_utf8.proofs.Stores.{list4, word-stored}

-- ---- one by one

pub scalar-below : (cs : List ℕ) (k : ℕ) → All IsScalar cs → k < length cs → get_or cs k 0 < 0x11_0000
scalar-below cs k scalars within = (ranges (get_or cs k 0) (scalars k 0 within)).below

four-bytes : (c word : ℕ) → 0x1_0000 ≤ c → c < 0x11_0000 → IsScalarWord c word → (word % 0x100) ∷ (word / 0x100 % 0x100) ∷ (word / 0x10000 % 0x100) ∷ (word / 0x1000000) ∷ [] ≡ utf8_bytes c
four-bytes c word from below w =
    let is = w.four from in
    list4 _ _ _ _ (240 + c / 2 ^ 18) (trailing_byte (c / 2 ^ 12)) (trailing_byte (c / 2 ^ 6)) (trailing_byte c) (omega (arith, is)) (omega (arith, is)) (omega (arith, is)) (omega (arith, is)) ∙ sym (four_bytes c from)

word-of_unit : (c word len : ℕ) → c < 0x1_0000 → IsScalarWord c word → IsScalarLen c len → IsWordOf c word len
word-of_unit c word len below w l = record {
  one = λ low. (omega (arith, w.one low), l.one low);
  two = λ from low. (omega (arith, w.two from low), l.two from low);
  three = λ from. (omega (arith, w.three from below), l.three from below);
}

-- Four bytes are stored, of which the first are used.
pub scalar-stored : (xs zs : List ℕ) (at c word len : ℕ) → at ≤ length xs → c < 0x11_0000 → IsScalarWord c word → IsScalarLen c len
    → take (at + 4) zs ≡ take at xs ++ (word % 0x100) ∷ (word / 0x100 % 0x100) ∷ (word / 0x10000 % 0x100) ∷ (word / 0x1000000) ∷ [] → take (at + len) zs ≡ take at xs ++ utf8_bytes c
scalar-stored xs zs at c word len space below w l stored = elim (cases_lt c 0x1_0000) [
  | inl low ↦ word-stored xs zs at c word len space low (word-of_unit c word len low w l) stored
  | inr from ↦ ap (λ n. take (at + n) zs) (l.four from) ∙ stored ∙ ap (λ bs. take at xs ++ bs) (four-bytes c word from below w)
]

pub scalar-len : {c len : ℕ} → IsScalarLen c len → len ≤ 4
scalar-len {c} l = elim (cases_lt c 0x80) [
  | inl low ↦ omega (arith, l.one low)
  | inr from ↦ elim (cases_lt c 0x800) [
    | inl low ↦ omega (arith, l.two from low)
    | inr from_800 ↦ elim (cases_lt c 0x1_0000) [ inl low ↦ omega (arith, l.three from_800 low) | inr high ↦ omega (arith, l.four high) ]
  ]
]

pub text-none : (before : List ℕ) (cs : List ℕ) → before ≡ before ++ utf8 (take 0 cs)
text-none before cs = sym (append-nil before)

-- The UTF-8 of some more scalar values.
pub text-more : (cs s : List ℕ) (i n : ℕ) {t v : List ℕ} → t ≡ s ++ utf8 (take i cs) → v ≡ t ++ utf8 (take n (drop i cs)) → v ≡ s ++ utf8 (take (i + n) cs)
text-more cs s i n so_far more =
    let a = take i cs in
    let b = take n (drop i cs) in
    more ∙ ap (λ bs. bs ++ utf8 b) so_far ∙ append_assoc s (utf8 a) (utf8 b) ∙ ap (λ bs. s ++ bs) (sym (flat_map-append utf8_bytes a b)) ∙ ap (λ ds. s ++ utf8 ds) (sym (take-add i n cs))

-- The UTF-8 of sixteen more scalar values.
pub text-sixteen_more : (cs : List ℕ) (i n : ℕ) {t v : List ℕ} → n ≡ 16 → t ≡ utf8 (take i cs) → v ≡ t ++ utf8 (take n (drop i cs)) → v ≡ utf8 (take (i + 16) cs)
text-sixteen_more cs i n {v} long so_far more = subst (λ m. v ≡ utf8 (take (i + m) cs)) long (text-more cs [] i n so_far more)

-- The UTF-8 of one more scalar value.
pub text-one_more : (cs s : List ℕ) (i : ℕ) {t v : List ℕ} → i < length cs → t ≡ s ++ utf8 (take i cs) → v ≡ t ++ utf8_bytes (get_or cs i 0) → v ≡ s ++ utf8 (take (i + 1) cs)
text-one_more cs s i {t} within so_far more =
    let one : utf8_bytes (get_or cs i 0) ≡ utf8 (take 1 (drop i cs)) = sym (ap (λ ds. utf8 (take 1 ds)) (drop-cons cs i 0 within) ∙ append-nil (utf8_bytes (get_or cs i 0))) in
    text-more cs s i 1 so_far (more ∙ ap (λ bs. t ++ bs) one)

-- ---- below 0x1_0000

pub encode-narrow : (form : EncodingForm) (cs : List ℕ) → ((k : ℕ) → k < length cs → get_or cs k 0 < 0x1_0000) → encode form cs ≡ cs
encode-narrow form [] narrow = refl
encode-narrow form (c ∷ cs) narrow = ap (λ us. us ++ encode form cs) (one_unit-plain form c (narrow 0 (omega arith))) ∙ ap (λ us. c ∷ us) (encode-narrow form cs (λ k within. narrow (suc k) (omega arith)))

-- The encoding of 16-bit units that are scalar values is the UTF-8 of these.
pub text-units : (cs us s : List ℕ) {t : List ℕ} → us ≡ cs → All IsScalar cs → ((k : ℕ) → k < length cs → get_or cs k 0 < 0x1_0000) → EncodedUnits us s t → t ≡ s ++ utf8 cs
text-units cs us s same scalars narrow e =
    let units : encode Utf16 e.cs ≡ encode Utf16 cs = sym e.units ∙ same ∙ sym (encode-narrow Utf16 cs narrow) in
    let is : e.cs ≡ cs = sym (chars-encode Utf16 e.cs e.scalars) ∙ ap (chars Utf16) units ∙ chars-encode Utf16 cs scalars in
    e.text ∙ ap (λ ds. s ++ utf8 ds) is

-- ASCII characters are their own UTF-8.
pub text-ascii : (cs us s : List ℕ) {t : List ℕ} → us ≡ cs → All IsScalar cs → ((k : ℕ) → k < length cs → get_or cs k 0 < 0x80) → t ≡ s ++ us → t ≡ s ++ utf8 cs
text-ascii cs us s same scalars ascii text =
    text ∙ ap (λ bs. s ++ bs) same ∙ text-units cs cs s refl scalars (λ k within. (let low = ascii k within in omega arith)) (encoded-ascii cs s ascii)

-- ---- well-formed UTF-32

pub scalars-well_formed : (us : List ℕ) → IsWellFormed Utf32 us → All IsScalar us
scalars-well_formed us well = subst (λ cs. All IsScalar cs) (chars32-well_formed us well) (scalars-chars Utf32 us well)

pub prefix_text-scalars : (us bytes : List ℕ) (n : ℕ) → IsWellFormed Utf32 us → n ≤ length us → bytes ≡ utf8 (take n us) → IsPrefixText Utf32 us n bytes
prefix_text-scalars us bytes n well within text =
    let at = IsBoundary-at Utf32 us n within (λ low. low) in
    let prefix : chars Utf32 (take n us) ≡ take n us = chars32-well_formed (take n us) (IsWellFormed-take Utf32 us well n at) in
    subst (λ bs. IsPrefixText Utf32 us n bs) (ap utf8 prefix ∙ sym text) (prefix_text-boundary Utf32 us well n at)
