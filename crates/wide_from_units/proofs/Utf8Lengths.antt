-- The length of well-formed units in UTF-8 bytes, from the units.
use Rattle.std.proofs.Common.{◌≡◌, ℕ, suc, ◌+◌, ◌<◌, ◌≤◌, List, [], ◌∷◌, inl, inr, refl, sym, ◌∙◌, ap, subst, arith, get_or, length, length-append}
use Rattle.std.specs.Char.{IsScalar}
use Rattle.std.specs.List.{sum_by}
use Rattle.std.proofs.lemmas.Bool.{cases_lt}
use Rattle.std.proofs.lemmas.Bool.Decides.{nat_tests}
use Rattle.std.proofs.lemmas.List.Sums.{sum_by-append}
use Rattle.wide_forms.specs.EncodingForm.{EncodingForm, Utf16, Utf32, code_units, encode}
use Rattle.wide_forms.specs.Items.{chars, IsWellFormed}
use Rattle.wide_forms.specs.Utf8.{utf8, utf8_bytes}
use Rattle.wide_forms.specs.Laws.Forms.{ranges, one_unit, two_units, high_of, low_of}
use Rattle.wide_forms.specs.Laws.Offsets.{scalars-chars, encode-chars}
use Rattle.wide_forms.specs.Laws.Utf32.{chars32-well_formed}
use Rattle.wide_from_units.specs.Lengths.{more_of_16, more_of_32}

len-one : (c : ℕ) → c < 0x1_0000 → (0xD800 ≤ c → 0xE000 ≤ c) → length (utf8_bytes c) ≡ 1 + more_of_16 c
unfolding utf8_bytes
len-one c below apart = grind (arith, nat_tests)

len-pair : (c : ℕ) → 0x1_0000 ≤ c → c < 0x11_0000 → length (utf8_bytes c) ≡ 2 + (more_of_16 (high_of c) + more_of_16 (low_of c))
unfolding utf8_bytes
len-pair c from below = grind (arith, nat_tests)

len32 : (c : ℕ) → length (utf8_bytes c) ≡ 1 + more_of_32 c
unfolding utf8_bytes
len32 c = grind (arith, nat_tests)

len-character : (c : ℕ) → IsScalar c → length (utf8_bytes c) ≡ length (code_units Utf16 c) + sum_by more_of_16 (code_units Utf16 c)
len-character c scalar =
    let r = ranges c scalar in
    elim (cases_lt c 0x1_0000) [
      | inl below ↦ rw (one_unit c below) (omega (arith, len-one c below r.no_surrogate))
      | inr from ↦ rw (two_units c from) (omega (arith, len-pair c from r.below))
    ]

encoded16 : (cs : List ℕ) → ((k d : ℕ) → k < length cs → IsScalar (get_or cs k d)) → length (utf8 cs) ≡ length (encode Utf16 cs) + sum_by more_of_16 (encode Utf16 cs)
encoded16 [] scalars = refl
encoded16 (c ∷ cs) scalars =
    omega (
      arith,
      len-character c (scalars 0 0 (omega arith)),
      encoded16 cs (λ k d l. scalars (suc k) d (omega arith)),
      sum_by-append more_of_16 (code_units Utf16 c) (encode Utf16 cs),
      length-append (code_units Utf16 c) (encode Utf16 cs),
      length-append (utf8_bytes c) (utf8 cs),
    )

encoded32 : (cs : List ℕ) → length (utf8 cs) ≡ length cs + sum_by more_of_32 cs
encoded32 [] = refl
encoded32 (c ∷ cs) = omega (arith, len32 c, encoded32 cs, sum_by-append more_of_32 (c ∷ []) cs, length-append (utf8_bytes c) (utf8 cs))

len16 : (us : List ℕ) → IsWellFormed Utf16 us → length us + sum_by more_of_16 us ≡ length (utf8 (chars Utf16 us))
len16 us well =
    let cs = chars Utf16 us in
    sym (subst (λ vs. length (utf8 cs) ≡ length vs + sum_by more_of_16 vs) (encode-chars Utf16 us well) (encoded16 cs (scalars-chars Utf16 us well)))

len32-all : (us : List ℕ) → IsWellFormed Utf32 us → length us + sum_by more_of_32 us ≡ length (utf8 (chars Utf32 us))
len32-all us well =
    sym (ap (λ cs. length (utf8 cs)) (chars32-well_formed us well) ∙ encoded32 us)

-- The length in UTF-8 of well-formed units of either width, by the bytes more than one that each adds.
module _ (form : EncodingForm) (us vs : List ℕ) (same : us ≡ vs) (well : IsWellFormed form vs) where
  pub len-by_width16 : Utf16 ≡ form → length us + sum_by more_of_16 us ≡ length (utf8 (chars form vs))
  len-by_width16 is = rw same (subst (λ f. length vs + sum_by more_of_16 vs ≡ length (utf8 (chars f vs))) is (len16 vs (subst (λ f. IsWellFormed f vs) (sym is) well)))

  pub len-by_width32 : Utf32 ≡ form → length us + sum_by more_of_32 us ≡ length (utf8 (chars form vs))
  len-by_width32 is = rw same (subst (λ f. length vs + sum_by more_of_32 vs ≡ length (utf8 (chars f vs))) is (len32-all vs (subst (λ f. IsWellFormed f vs) (sym is) well)))
