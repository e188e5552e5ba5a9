-- Items with their offsets, of joined lists.
use Rattle.std.proofs.Common.{◌≡◌, ℕ, ◌+◌, List, [], ◌∷◌, ◌++◌, length, map, ap, ◌∙◌, arith, length-append}
use Rattle.std.proofs.lemmas.List.{length-map}
use Rattle.wide_forms.specs.EncodingForm.{EncodingForm}
use Rattle.wide_forms.specs.Segmentation.{Item, item_units, units_of}
use Rattle.wide_forms.specs.Items.{items}
use Rattle.wide_forms.specs.Laws.Items.{units_of-items}
use Rattle.wide_ustr.specs.Indexed.{indexed}

indexed-append : (form : EncodingForm) (offset : ℕ) (is js : List Item) → indexed form offset (is ++ js) ≡ indexed form offset is ++ indexed form (offset + length (units_of form is)) js
indexed-append form offset [] js = ap (λ n. indexed form n js) (omega arith)
indexed-append form offset (i ∷ is) js =
    let after = offset + length (item_units form i) in
    let units : length (units_of form (i ∷ is)) ≡ length (item_units form i) + length (units_of form is) = length-append (item_units form i) (units_of form is) in
    let there : after + length (units_of form is) ≡ offset + length (units_of form (i ∷ is)) = omega (arith, units) in
    ap (λ l. (offset, i) ∷ l) (indexed-append form after is js ∙ ap (λ n. indexed form after is ++ indexed form n js) there)

-- The items of units and one more item, which begins at the end of these units, with their offsets.
pub indexed-push : {C : Type 0} (form : EncodingForm) (number : C → ℕ) (offset : ℕ) (all rest : List C) (i : Item) → items form (map number all) ≡ items form (map number rest) ++ i ∷ []
    → indexed form offset (items form (map number all)) ≡ indexed form offset (items form (map number rest)) ++ (offset + length rest, i) ∷ []
indexed-push form number offset all rest i e =
    let before = items form (map number rest) in
    let long : length (units_of form before) ≡ length rest = ap length (units_of-items form (map number rest)) ∙ length-map rest number in
    ap (λ is. indexed form offset is) e ∙ indexed-append form offset before (i ∷ []) ∙ ap (λ n. indexed form offset before ++ (offset + n, i) ∷ []) long
