-- Offsets that split a surrogate pair.
use Rattle.std.proofs.Common.{◌≡◌, ℕ, suc, ◌+◌, ◌-◌, ◌<◌, ◌≤◌, ◌⊎◌, inl, inr, Bool, true, false, List, [], ◌∷◌, ◌++◌, sym, ap, ◌∙◌, subst, arith, drop-cons, get_or, length, length-append, length-take-le, take, drop}
use Rattle.std.proofs.lemmas.Bool.Decides.{nat_tests}
use Rattle.std.proofs.lemmas.List.{get_or-take, get_or_at, take-append-drop}
use Rattle.wide_forms.specs.EncodingForm.{EncodingForm, Utf16, IsHighSurrogate, IsLowSurrogate}
use Rattle.wide_forms.specs.Segmentation.{Item, Char, item_units, units_of}
use Rattle.wide_forms.specs.Items.{IsBoundary, items}
use Rattle.wide_forms.specs.Searches.{is_high, is_low}
use Rattle.wide_forms.specs.Laws.Boundaries.{IsBoundary-of_cut}
use Rattle.wide_forms.specs.Laws.Ends.{items-prefix_char}
use Rattle.wide_forms.specs.Laws.Forms.{IsPair-from, IsPair-parts, high-no_low}
use Rattle.wide_forms.specs.Laws.Items.{IsCut, items-append, units_of-items}

-- No prefix of some items ends within an item.
ends_at_item : (form : EncodingForm) (prefix back before after : List Item) (i : Item) → prefix ++ back ≡ before ++ i ∷ after
    → (length (units_of form prefix) ≤ length (units_of form before)) ⊎ (length (units_of form before) + length (item_units form i) ≤ length (units_of form prefix))
ends_at_item form [] back before after i e = inl (omega arith)
ends_at_item form (p ∷ prefix) back [] after i e =
    let same : p ≡ i = cc in
    inr (omega (arith, length-append (item_units form p) (units_of form prefix), ap (λ j. length (item_units form j)) same))
ends_at_item form (p ∷ prefix) back (b ∷ before) after i e =
    let same : p ≡ b = cc in
    let rest : prefix ++ back ≡ before ++ i ∷ after = cc in
    let long = length-append (item_units form p) (units_of form prefix) in
    let short = length-append (item_units form b) (units_of form before) in
    let first = ap (λ j. length (item_units form j)) same in
    elim (ends_at_item form prefix back before after i rest) [
      | inl h ↦ inl (omega (arith, h, long, short, first))
      | inr h ↦ inr (omega (arith, h, long, short, first))
    ]

-- A pair is not split off the units before it.
cut-before_pair : (form : EncodingForm) (us rest : List ℕ) (h l : ℕ) → IsHighSurrogate form h → IsCut form us (h ∷ l ∷ rest)
cut-before_pair form us rest h l high prefix back g m e f pair =
    let same : h ≡ m = cc in
    high-no_low form h high (rw (sym same) at ((IsPair-parts form g m pair).1))

-- An offset within a pair is no boundary.
pub IsBoundary-not_within : (form : EncodingForm) (us rest : List ℕ) (h l : ℕ) → IsHighSurrogate form h → IsLowSurrogate form l → ¬ (IsBoundary form (us ++ h ∷ l ∷ rest) (length us + 1))
IsBoundary-not_within form us rest h l high low at =
    let pair = IsPair-from form h l high low in
    let split : items form (us ++ h ∷ l ∷ rest) ≡ items form us ++ Char pair.0 ∷ items form rest =
    items-append form us (h ∷ l ∷ rest) (cut-before_pair form us rest h l high) ∙ ap (λ is. items form us ++ is) (ap (λ xs. items form (xs ++ rest)) (sym pair.2) ∙ items-prefix_char form pair.0 rest pair.1)
    in
    let before : length (units_of form (items form us)) ≡ length us = ap length (units_of-items form us) in
    let long : length (item_units form (Char pair.0)) ≡ 2 = ap length pair.2 in
    elim (ends_at_item form at.0 at.1 (items form us) (items form rest) (Char pair.0) (sym at.2 ∙ split)) [
      | inl h ↦ omega (arith, h, at.3, before)
      | inr h ↦ omega (arith, h, at.3, before, long)
    ]

-- An offset between the halves of a pair is no boundary.
pub pair-not_split : (form : EncodingForm) (us : List ℕ) (n m : ℕ) → m ≡ n + 1 → m < length us → IsHighSurrogate form (get_or us n 0) → IsLowSurrogate form (get_or us m 0) → ¬ (IsBoundary form us m)
pair-not_split form us n m next within high low at =
    let h = get_or us n 0 in
    let l = get_or us m 0 in
    let rest = drop (suc m) us in
    let after : suc n ≡ m = omega (arith, next) in
    let back : drop n us ≡ h ∷ l ∷ rest = drop-cons us n 0 (omega (arith, next, within)) ∙ ap (λ xs. h ∷ xs) (ap (λ k. drop k us) after ∙ drop-cons us m 0 within) in
    let parts : us ≡ take n us ++ h ∷ l ∷ rest = sym (take-append-drop n us) ∙ ap (λ xs. take n us ++ xs) back in
    let here : m ≡ length (take n us) + 1 = omega (arith, next, within, length-take-le n us (omega (arith, next, within))) in
    IsBoundary-not_within form (take n us) rest h l high low (subst (λ k. IsBoundary form (take n us ++ h ∷ l ∷ rest) k) here (subst (λ xs. IsBoundary form xs m) parts at))

-- What the tests of units say.
pub high-is : (u : ℕ) (result : Bool) → result ≡ is_high u → result ≡ true → IsHighSurrogate Utf16 u
high-is u result is holds = grind (arith, nat_tests)

pub low-is : (u : ℕ) (result : Bool) → result ≡ is_low u → result ≡ true → IsLowSurrogate Utf16 u
low-is u result is holds = grind (arith, nat_tests)

pub high-not : (u : ℕ) (result : Bool) → result ≡ is_high u → result ≡ false → IsHighSurrogate Utf16 u → ⊥
high-not u result is fails high = grind (arith, nat_tests)

pub low-not : (u : ℕ) (result : Bool) → result ≡ is_low u → result ≡ false → IsLowSurrogate Utf16 u → ⊥
low-not u result is fails low = grind (arith, nat_tests)

-- An offset after a unit that is no high surrogate is a boundary.
pub IsBoundary-after : (form : EncodingForm) (us : List ℕ) (offset : ℕ) → 0 < offset → offset ≤ length us → (IsHighSurrogate form (get_or us (offset - 1) 0) → ⊥) → IsBoundary form us offset
IsBoundary-after form us offset some within none =
    let cut : IsCut form (take offset us) (drop offset us) = λ prefix back h l e f pair.
    let count : length prefix ≡ offset - 1 = omega (arith, ap length e, length-append prefix (h ∷ []), length-take-le offset us within) in
    let last : get_or us (offset - 1) 0 ≡ h = sym (get_or-take offset us (offset - 1) 0 (omega (arith, some))) ∙ ap (λ xs. get_or xs (offset - 1) 0) e ∙ get_or_at prefix h [] 0 (offset - 1) count in
    none (subst (IsHighSurrogate form) (sym last) (IsPair-parts form h l pair).0)
    in
    let b = IsBoundary-of_cut form (take offset us) (drop offset us) cut in
    (b.0, b.1, ap (λ xs. items form xs) (sym (take-append-drop offset us)) ∙ b.2, b.3 ∙ length-take-le offset us within)
