-- The encoding of scalar values is UTF-8.
use Rattle.std.proofs.Common.{◌≡◌, ℕ, List, [], ◌∷◌, true, suc, refl, sym, ap, arith, length, map}
use Rattle.std.specs.Char.{IsScalar}
use Rattle.std.specs.Cmp.Derive.{both_true}
use Rattle.std.specs.List.{All}
use Rattle.std.specs.Str.{IsUtf8, all_scalars}
use Rattle.wide_forms.specs.EncodingForm.{EncodingForm}
use Rattle.wide_forms.specs.Items.{chars, characters}
use Rattle.wide_forms.specs.Utf8.{utf8}
use Rattle.wide_forms.specs.Laws.Items.{items-nil}
use Rattle.wide_forms.specs.Laws.Utf8.{utf8-encode_utf8_all}

pub all_scalars-of_All : (cs : List ℕ) → All IsScalar cs → all_scalars cs ≡ true
all_scalars-of_All [] all = refl
all_scalars-of_All (c ∷ cs) all = both_true (all 0 c (omega arith)) (all_scalars-of_All cs (λ k d within. all (suc k) d (omega (arith, within))))

pub IsUtf8-utf8 : (cs : List ℕ) → All IsScalar cs → IsUtf8 (utf8 cs)
IsUtf8-utf8 cs all = (cs, (all_scalars-of_All cs all, sym (utf8-encode_utf8_all cs)))

-- No units have no text.
pub no_text : {C : Type 0} (form : EncodingForm) (number : C → ℕ) (us : List C) → length us ≡ 0 → utf8 (chars form (map number us)) ≡ []
no_text form number [] none = ap (λ is. utf8 (characters is)) (items-nil form)
no_text form number (u ∷ us) none = absurd (omega arith)
