-- Boundaries: in well-formed units they are the offsets of units that are no low surrogate, and the end.
use Rattle.std.proofs.Common.{◌≡◌, ℕ, ◌+◌, ◌<◌, ◌≤◌, List, [], ◌∷◌, ◌++◌, refl, sym, ◌∙◌, ap, arith, length, get_or, length-append, take, drop}
use Rattle.std.specs.Prelude.{map}
use Rattle.std.proofs.lemmas.List.{append-nil, take-append-drop, length-take-le, get_or-drop, get_or_at}
use Rattle.std.proofs.lemmas.List.Concat.{flat_map-append}
use Rattle.wide_forms.specs.EncodingForm.{EncodingForm, IsLowSurrogate}
use Rattle.wide_forms.specs.Segmentation.{Item, Char, Fault, item_units, units_of}
use Rattle.wide_forms.specs.Items.{items, IsWellFormed, chars, IsBoundary}
use Rattle.wide_forms.specs.Laws.Forms.{low-begins_nothing, IsPair-parts, IsTrailing-from}
use Rattle.wide_forms.specs.Laws.Chains.{Chain}
use Rattle.wide_forms.specs.Laws.Items.{IsCut, items-append, items-chain, units_of-items, chars-of_well_formed}

-- An offset that splits no pair is a boundary.
pub IsBoundary-of_cut : (form : EncodingForm) (a b : List ℕ) → IsCut form a b → IsBoundary form (a ++ b) (length a)
IsBoundary-of_cut form a b cut = (items form a, items form b, items-append form a b cut, ap length (units_of-items form a))

-- The units of concatenated lists of items are the concatenated units.
pub units_of-append : (form : EncodingForm) (is js : List Item) → units_of form (is ++ js) ≡ units_of form is ++ units_of form js
units_of-append form is js = flat_map-append (item_units form) is js

-- No pair is split at an offset whose unit is no low surrogate.
IsCut-at : (form : EncodingForm) (us : List ℕ) (offset : ℕ) → (IsLowSurrogate form (get_or us offset 0) → ⊥) → IsCut form (take offset us) (drop offset us)
IsCut-at form us offset none prefix back h l e f pair =
    let at : get_or us offset 0 ≡ l = ap (λ n. get_or us n 0) {x = offset} {y = offset + 0} (omega arith) ∙ sym (get_or-drop offset us 0 0) ∙ ap (λ xs. get_or xs 0 0) f in
    none (rw at (IsPair-parts form h l pair).1)

-- An offset whose unit is no low surrogate is a boundary, and so is the end.
pub IsBoundary-at : (form : EncodingForm) (us : List ℕ) (offset : ℕ) → offset ≤ length us → (IsLowSurrogate form (get_or us offset 0) → ⊥) → IsBoundary form us offset
IsBoundary-at form us offset within none =
    let b = IsBoundary-of_cut form (take offset us) (drop offset us) (IsCut-at form us offset none) in
    (b.0, b.1, ap (λ xs. items form xs) (sym (take-append-drop offset us)) ∙ b.2, b.3 ∙ length-take-le offset us within)

-- The end is a boundary.
pub IsBoundary-end : (form : EncodingForm) (us : List ℕ) → IsBoundary form us (length us)
IsBoundary-end form us = (items form us, [], sym (append-nil (items form us)), ap length (units_of-items form us))

chars-no_fault_at : (cs : List ℕ) (js is : List Item) (h : ℕ) → map Char cs ≡ js ++ Fault h ∷ is → ⊥
chars-no_fault_at [] [] is h e = cc
chars-no_fault_at [] (j ∷ js) is h e = cc
chars-no_fault_at (c ∷ cs) [] is h e = cc
chars-no_fault_at (c ∷ cs) (j ∷ js) is h e = let f : map Char cs ≡ js ++ Fault h ∷ is = cc in chars-no_fault_at cs js is h f

no-low_first : (form : EncodingForm) (cs : List ℕ) (prefix back : List Item) (l : ℕ) (rest : List ℕ) → Chain form back → map Char cs ≡ prefix ++ back → units_of form back ≡ l ∷ rest → IsLowSurrogate form l → ⊥
no-low_first form cs prefix [] l rest chain e f low = cc
no-low_first form cs prefix (Fault u ∷ back) l rest chain e f low = chars-no_fault_at cs prefix back u e
no-low_first form cs prefix (Char d ∷ back) l rest chain e f low =
    let t = IsTrailing-from form l low in
    low-begins_nothing form t.0 l d rest (units_of form back) t.1 chain.0 f

pub chain-back : (form : EncodingForm) (js is : List Item) → Chain form (js ++ is) → Chain form is
chain-back form [] is chain = chain
chain-back form (j ∷ js) is chain = chain-back form js is chain.2

first_unit : (xs : List ℕ) → 0 < length xs → (l : ℕ) × (rest : List ℕ) × (xs ≡ l ∷ rest)
first_unit [] some = absurd (omega arith)
first_unit (x ∷ xs) some = (x, xs, refl)

pub no-low_at_boundary : (form : EncodingForm) (us : List ℕ) (offset : ℕ) → IsWellFormed form us → offset < length us → IsBoundary form us offset → IsLowSurrogate form (get_or us offset 0) → ⊥
no-low_at_boundary form us offset well within at low =
    let prefix = at.0 in
    let back = at.1 in
    let joined : us ≡ units_of form prefix ++ units_of form back = sym (units_of-items form us) ∙ ap (λ is. units_of form is) at.2 ∙ units_of-append form prefix back in
    let long : length us ≡ length (units_of form prefix) + length (units_of form back) = ap length joined ∙ length-append (units_of form prefix) (units_of form back) in
    let first = first_unit (units_of form back) (omega (arith, at.3)) in
    let unit : get_or us offset 0 ≡ first.0 = ap (λ xs. get_or xs offset 0) (joined ∙ ap (λ xs. units_of form prefix ++ xs) first.2) ∙ get_or_at (units_of form prefix) first.0 first.1 0 offset at.3 in
    let chain : Chain form (prefix ++ back) = rw at.2 at (items-chain form us) in
    no-low_first form (chars form us) prefix back first.0 first.1 (chain-back form prefix back chain) (sym (chars-of_well_formed form us well) ∙ at.2) first.2 (rw unit at low)
