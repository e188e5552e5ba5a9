-- Characters with their offsets, by the last one.
use Rattle.std.proofs.Common.{◌≡◌, ℕ, ◌+◌, List, [], ◌∷◌, ◌++◌, length, map, ap, ◌∙◌, arith, length-append}
use Rattle.std.proofs.lemmas.List.{length-map}
use Rattle.wide_forms.specs.EncodingForm.{EncodingForm, code_units, encode}
use Rattle.wide_forms.specs.Items.{chars, IsWellFormed}
use Rattle.wide_forms.specs.Laws.Offsets.{encode-chars}
use Rattle.wide_utfstr.specs.Indexed.{indexed_chars}

-- The offset of a character after others is the length in units of those.
indexed_chars-push : (form : EncodingForm) (offset : ℕ) (cs : List ℕ) (c : ℕ) → indexed_chars form offset (cs ++ c ∷ []) ≡ indexed_chars form offset cs ++ (offset + length (encode form cs), c) ∷ []
indexed_chars-push form offset [] c = ap (λ n. (n, c) ∷ []) (omega arith)
indexed_chars-push form offset (d ∷ cs) c =
    let there : offset + length (code_units form d) + length (encode form cs) ≡ offset + length (encode form (d ∷ cs)) = omega (arith, length-append (code_units form d) (encode form cs)) in
    ap (λ l. (offset, d) ∷ l) (indexed_chars-push form (offset + length (code_units form d)) cs c ∙ ap (λ n. indexed_chars form (offset + length (code_units form d)) cs ++ (n, c) ∷ []) there)

-- The last character of units begins at the end of the units before it.
pub indexed_chars-last : {C : Type 0} (form : EncodingForm) (number : C → ℕ) (offset : ℕ) (all rest : List C) (c : ℕ) → IsWellFormed form (map number rest) → chars form (map number all) ≡ chars form (map number rest) ++ c ∷ []
    → indexed_chars form offset (chars form (map number all)) ≡ indexed_chars form offset (chars form (map number rest)) ++ (offset + length rest, c) ∷ []
indexed_chars-last form number offset all rest c well e =
    let before = chars form (map number rest) in
    let long : length (encode form before) ≡ length rest = ap length (encode-chars form (map number rest) well) ∙ length-map rest number in
    ap (λ cs. indexed_chars form offset cs) e ∙ indexed_chars-push form offset before c ∙ ap (λ n. indexed_chars form offset before ++ (offset + n, c) ∷ []) long
