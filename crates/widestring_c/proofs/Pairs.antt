-- The length of scalar values in UTF-16: two units for each one above U+FFFF.
use Rattle.std.proofs.Common.{◌≡◌, ℕ, ◌+◌, cond, inl, inr, List, [], ◌∷◌, length, nat_le, refl, sym, ap, ◌∙◌, arith}
use Rattle.std.specs.List.{count_by}
use Rattle.std.proofs.lemmas.List.Recursion.{is_count_by}
use Rattle.std.proofs.lemmas.Bool.{cases_lt, le-leb, lt-leb}
use Rattle.wide_forms.specs.EncodingForm.{Utf16, Utf32, encode}
use Rattle.wide_forms.specs.Items.{IsWellFormed, chars}
use Rattle.wide_forms.specs.Laws.Forms.{one_unit, two_units}
use Rattle.wide_forms.specs.Laws.Utf32.{chars32-well_formed}

abbrev pairs : List ℕ → ℕ
pairs [] = 0
pairs (c ∷ cs) = cond (nat_le 0x1_0000 c) (1 + pairs cs) (pairs cs)

with-pairs : (cs : List ℕ) → length (encode Utf16 cs) ≡ length cs + pairs cs
with-pairs [] = refl
with-pairs (c ∷ cs) = elim (cases_lt c 0x1_0000) [
  | inl below ↦ (let more = with-pairs cs in rw (one_unit c below, lt-leb 0x1_0000 c below) (omega (arith, more)))
  | inr from ↦ (let more = with-pairs cs in rw (two_units c from, le-leb 0x1_0000 c from) (omega (arith, more)))
]

pairs-counted : (cs : List ℕ) → length (encode Utf16 cs) ≡ length cs + count_by (nat_le 0x1_0000) cs
pairs-counted cs = with-pairs cs ∙ ap (λ n. length cs + n) (is_count_by pairs (nat_le 0x1_0000) refl (λ x xs. refl) cs)

pub units-counted : (us : List ℕ) (pairs : ℕ) → IsWellFormed Utf32 us → pairs ≡ count_by (nat_le 0x1_0000) us → length us + pairs ≡ length (encode Utf16 (chars Utf32 us))
units-counted us pairs well is = sym (ap (λ cs. length (encode Utf16 cs)) (chars32-well_formed us well) ∙ pairs-counted us ∙ ap (λ n. length us + n) (sym is))
