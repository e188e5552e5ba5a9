-- The items at the ends of a list of units: what a decoder reads from the front, and what it reads from the back.
use Rattle.std.proofs.Common.{◌≡◌, ℕ, List, [], ◌∷◌, ◌++◌, inl, inr, refl, sym, ◌∙◌, ap, subst}
use Rattle.std.specs.Prelude.{map}
use Rattle.std.specs.Char.{IsScalar}
use Rattle.std.proofs.lemmas.List.{append-nil}
use Rattle.wide_forms.specs.EncodingForm.{EncodingForm, code_units, IsFault, IsPair, IsHighSurrogate, IsLowSurrogate}
use Rattle.wide_forms.specs.Segmentation.{Item, Char, Fault, item_units, units_of}
use Rattle.wide_forms.specs.Items.{items, IsWellFormed, chars}
use Rattle.wide_forms.specs.Laws.Forms.{code_units-cases, code_units-prefix, low-begins_nothing, IsPair-parts, IsFault-high, IsFault-low, high-no_low}
use Rattle.wide_forms.specs.Laws.Chains.{Chain, nonempty}
use Rattle.wide_forms.specs.Laws.Items.{IsCut, items-append, items-chain, items-code_units, items-fault, units_of-items, chars-of_well_formed, IsWellFormed-of_chars}

-- If the units of a chain end in the first unit of a pair, the chain ends in that fault.
pub ends-after : (xs ys prefix : List ℕ) (h : ℕ) → (ys ≡ [] → ⊥) → xs ++ ys ≡ prefix ++ h ∷ [] → (rest : List ℕ) × (ys ≡ rest ++ h ∷ [])
ends-after [] ys prefix h some e = (prefix, e)
ends-after (x ∷ xs) [] prefix h some e = absurd (some refl)
ends-after (x ∷ []) (y ∷ ys) [] h some e = absurd cc
ends-after (x ∷ z ∷ xs) (y ∷ ys) [] h some e = absurd cc
ends-after (x ∷ xs) (y ∷ ys) (z ∷ prefix) h some e = let rest : xs ++ y ∷ ys ≡ prefix ++ h ∷ [] = cc in ends-after xs (y ∷ ys) prefix h some rest

push-not_nil : (xs : List ℕ) (y : ℕ) → xs ++ y ∷ [] ≡ [] → ⊥
push-not_nil [] y e = cc
push-not_nil (x ∷ xs) y e = cc

two-not_push : (a b x y h : ℕ) (prefix : List ℕ) → a ∷ b ∷ [] ≡ x ∷ y ∷ prefix ++ h ∷ [] → ⊥
two-not_push a b x y h prefix e = let f : prefix ++ h ∷ [] ≡ [] = cc in push-not_nil prefix h f

no-high_last : (form : EncodingForm) (c h l : ℕ) (prefix : List ℕ) → IsScalar c → IsPair form h l → code_units form c ≡ prefix ++ h ∷ [] → ⊥
no-high_last form c h l [] hc pair e =
    let f : code_units form c ++ l ∷ [] ≡ code_units form pair.0 ++ [] = ap (λ xs. xs ++ l ∷ []) e ∙ sym pair.2 ∙ sym (append-nil (code_units form pair.0)) in
    let same : c ≡ pair.0 = code_units-prefix form c pair.0 (l ∷ []) [] hc pair.1 f in
    let g : h ∷ [] ≡ h ∷ l ∷ [] = sym e ∙ ap (λ d. code_units form d) same ∙ pair.2 in
    cc
no-high_last form c h l (x ∷ []) hc pair e =
    low-begins_nothing form x h pair.0 (l ∷ []) [] (c, hc, e) pair.1 (append-nil (code_units form pair.0) ∙ pair.2)
no-high_last form c h l (x ∷ y ∷ prefix) hc pair e = elim (code_units-cases form c) [
  | inl one ↦ (let f : one.0 ∷ [] ≡ x ∷ y ∷ prefix ++ h ∷ [] = sym one.1 ∙ e in cc)
  | inr two ↦ two-not_push two.0 two.1 x y h prefix (sym two.2 ∙ e)
]

fault-push : (u h : ℕ) (prefix : List ℕ) → u ∷ [] ≡ prefix ++ h ∷ [] → u ≡ h
fault-push u h [] e = cc
fault-push u h (x ∷ prefix) e = let f : prefix ++ h ∷ [] ≡ [] = cc in absurd (push-not_nil prefix h f)

units-not_nil : (form : EncodingForm) (i : Item) (is : List Item) → units_of form (i ∷ is) ≡ [] → ⊥
units-not_nil form i is e = nonempty form i (units_of form is) e

chain-ends : (form : EncodingForm) (is : List Item) (h l : ℕ) (prefix : List ℕ) → Chain form is → IsPair form h l → units_of form is ≡ prefix ++ h ∷ [] → (js : List Item) × (is ≡ js ++ Fault h ∷ [])
chain-ends form [] h l prefix chain pair e = absurd (push-not_nil prefix h (sym e))
chain-ends form (Char c ∷ []) h l prefix chain pair e = absurd (no-high_last form c h l prefix chain.0 pair (sym (append-nil (code_units form c)) ∙ e))
chain-ends form (Fault u ∷ []) h l prefix chain pair e = ([], ap (λ v. Fault v ∷ []) (fault-push u h prefix e))
chain-ends form (i ∷ j ∷ is) h l prefix chain pair e =
    let at = ends-after (item_units form i) (units_of form (j ∷ is)) prefix h (λ f. units-not_nil form j is f) e in
    let rest = chain-ends form (j ∷ is) h l at.0 chain.2 pair at.1 in
    (i ∷ rest.0, ap (λ xs. i ∷ xs) rest.1)

-- A list of characters does not end in a fault.
chars-no_fault : (cs : List ℕ) (js : List Item) (h : ℕ) → map Char cs ≡ js ++ Fault h ∷ [] → ⊥
chars-no_fault [] [] h e = cc
chars-no_fault [] (j ∷ js) h e = cc
chars-no_fault (c ∷ cs) [] h e = cc
chars-no_fault (c ∷ cs) (j ∷ js) h e = let f : map Char cs ≡ js ++ Fault h ∷ [] = cc in chars-no_fault cs js h f

-- After well-formed units, no pair is split.
pub IsCut-after : (form : EncodingForm) (a b : List ℕ) → IsWellFormed form a → IsCut form a b
IsCut-after form a b well prefix back h l e f pair =
    let at = chain-ends form (items form a) h l prefix (items-chain form a) pair (units_of-items form a ∙ e) in
    chars-no_fault (chars form a) at.0 h (sym (chars-of_well_formed form a well) ∙ at.1)

first-no_low : (form : EncodingForm) (cs : List ℕ) (h l : ℕ) (back : List ℕ) → Chain form (map Char cs) → IsPair form h l → units_of form (map Char cs) ≡ l ∷ back → ⊥
first-no_low form [] h l back chain pair e = cc
first-no_low form (c ∷ cs) h l back chain pair e = low-begins_nothing form h l c back (units_of form (map Char cs)) pair chain.0 e

-- Before well-formed units, no pair is split.
pub IsCut-before : (form : EncodingForm) (a b : List ℕ) → IsWellFormed form b → IsCut form a b
IsCut-before form a b well prefix back h l e f pair =
    let plain = chars-of_well_formed form b well in
    let g : units_of form (map Char (chars form b)) ≡ l ∷ back = ap (λ is. units_of form is) (sym plain) ∙ units_of-items form b ∙ f in
    let chain : Chain form (map Char (chars form b)) = subst (λ is. Chain form is) plain (items-chain form b) in
    first-no_low form (chars form b) h l back chain pair g

-- The items of concatenated lists are the concatenated items, if the first list is well formed.
pub items-append_left : (form : EncodingForm) (a b : List ℕ) → IsWellFormed form a → items form (a ++ b) ≡ items form a ++ items form b
items-append_left form a b well = items-append form a b (IsCut-after form a b well)

-- The items of concatenated lists are the concatenated items, if the second list is well formed.
pub items-append_right : (form : EncodingForm) (a b : List ℕ) → IsWellFormed form b → items form (a ++ b) ≡ items form a ++ items form b
items-append_right form a b well = items-append form a b (IsCut-before form a b well)

-- The units of a character are well formed.
pub IsWellFormed-code_units : (form : EncodingForm) (c : ℕ) → IsScalar c → IsWellFormed form (code_units form c)
IsWellFormed-code_units form c hc = IsWellFormed-of_chars form (code_units form c) (c ∷ []) (items-code_units form c hc)

-- A decoder from the front reads a character, and then the items of the units after it.
pub items-prefix_char : (form : EncodingForm) (c : ℕ) (us : List ℕ) → IsScalar c → items form (code_units form c ++ us) ≡ Char c ∷ items form us
items-prefix_char form c us hc =
    items-append_left form (code_units form c) us (IsWellFormed-code_units form c hc) ∙ ap (λ is. is ++ items form us) (items-code_units form c hc)

-- A decoder from the front reads a fault that is no pair with the unit after it, and then the items of the units after
-- it.
pub items-prefix_fault : (form : EncodingForm) (u : ℕ) (us : List ℕ) → IsFault form u → ((l : ℕ) (back : List ℕ) → us ≡ l ∷ back → ¬ (IsPair form u l)) → items form (u ∷ us) ≡ Fault u ∷ items form us
items-prefix_fault form u us hu apart =
    let cut : IsCut form (u ∷ []) us = λ prefix back h l e f. let same : u ≡ h = fault-push u h prefix e in rw same at (apart l back f) in
    items-append form (u ∷ []) us cut ∙ ap (λ is. is ++ items form us) (items-fault form u hu)

-- A decoder from the back reads a character, and then the items of the units before it.
pub items-back_char : (form : EncodingForm) (us : List ℕ) (c : ℕ) → IsScalar c → items form (us ++ code_units form c) ≡ items form us ++ Char c ∷ []
items-back_char form us c hc =
    items-append_right form us (code_units form c) (IsWellFormed-code_units form c hc) ∙ ap (λ is. items form us ++ is) (items-code_units form c hc)

-- A decoder from the back reads a fault that is no pair with the unit before it, and then the items of the units before
-- it.
pub items-back_fault : (form : EncodingForm) (us : List ℕ) (u : ℕ) → IsFault form u → ((prefix : List ℕ) (h : ℕ) → us ≡ prefix ++ h ∷ [] → ¬ (IsPair form h u)) → items form (us ++ u ∷ []) ≡ items form us ++ Fault u ∷ []
items-back_fault form us u hu apart =
    let cut : IsCut form us (u ∷ []) = λ prefix back h l e f. let same : u ≡ l = cc in rw same at (apart prefix h e) in
    items-append form us (u ∷ []) cut ∙ ap (λ is. items form us ++ is) (items-fault form u hu)

-- A low surrogate that is the first unit is a fault.
pub items-prefix_low : (form : EncodingForm) (u : ℕ) (us : List ℕ) → IsLowSurrogate form u → items form (u ∷ us) ≡ Fault u ∷ items form us
items-prefix_low form u us low = items-prefix_fault form u us (IsFault-low form u low) (λ l back e pair. high-no_low form u (IsPair-parts form u l pair).0 low)

-- A high surrogate that is the first unit is a fault if no low one follows it.
pub items-prefix_high : (form : EncodingForm) (u : ℕ) (us : List ℕ) → IsHighSurrogate form u → ((l : ℕ) (back : List ℕ) → us ≡ l ∷ back → ¬ (IsLowSurrogate form l)) → items form (u ∷ us) ≡ Fault u ∷ items form us
items-prefix_high form u us high apart = items-prefix_fault form u us (IsFault-high form u high) (λ l back e pair. apart l back e (IsPair-parts form u l pair).1)

-- A high surrogate that is the last unit is a fault.
pub items-back_high : (form : EncodingForm) (us : List ℕ) (u : ℕ) → IsHighSurrogate form u → items form (us ++ u ∷ []) ≡ items form us ++ Fault u ∷ []
items-back_high form us u high = items-back_fault form us u (IsFault-high form u high) (λ prefix h e pair. high-no_low form u high (IsPair-parts form h u pair).1)

-- A low surrogate that is the last unit is a fault if no high one precedes it.
pub items-back_low : (form : EncodingForm) (us : List ℕ) (u : ℕ) → IsLowSurrogate form u → ((prefix : List ℕ) (h : ℕ) → us ≡ prefix ++ h ∷ [] → ¬ (IsHighSurrogate form h)) → items form (us ++ u ∷ []) ≡ items form us ++ Fault u ∷ []
items-back_low form us u low apart = items-back_fault form us u (IsFault-low form u low) (λ prefix h e pair. apart prefix h e (IsPair-parts form h u pair).0)

-- The items of `us`, from those of the `rest` without the first item, or without the last item.
module _ (form : EncodingForm) (us rest : List ℕ) where
  pub items-first_char : (u c : ℕ) → us ≡ u ∷ rest → IsScalar c → code_units form c ≡ u ∷ [] → items form us ≡ Char c ∷ items form rest
  items-first_char u c split hc e = ap (λ xs. items form xs) (split ∙ ap (λ xs. xs ++ rest) (sym e)) ∙ items-prefix_char form c rest hc

  pub items-first_pair : (h l c : ℕ) → us ≡ h ∷ l ∷ rest → IsScalar c → code_units form c ≡ h ∷ l ∷ [] → items form us ≡ Char c ∷ items form rest
  items-first_pair h l c split hc e = ap (λ xs. items form xs) (split ∙ ap (λ xs. xs ++ rest) (sym e)) ∙ items-prefix_char form c rest hc

  pub items-first_fault : (u : ℕ) → us ≡ u ∷ rest → IsFault form u → ((l : ℕ) (back : List ℕ) → rest ≡ l ∷ back → ¬ (IsPair form u l)) → items form us ≡ Fault u ∷ items form rest
  items-first_fault u split hu apart = ap (λ xs. items form xs) split ∙ items-prefix_fault form u rest hu apart

  pub items-last_char : (u c : ℕ) → us ≡ rest ++ u ∷ [] → IsScalar c → code_units form c ≡ u ∷ [] → items form us ≡ items form rest ++ Char c ∷ []
  items-last_char u c split hc e = ap (λ xs. items form xs) (split ∙ ap (λ xs. rest ++ xs) (sym e)) ∙ items-back_char form rest c hc

  pub items-last_pair : (h l c : ℕ) → us ≡ rest ++ h ∷ l ∷ [] → IsScalar c → code_units form c ≡ h ∷ l ∷ [] → items form us ≡ items form rest ++ Char c ∷ []
  items-last_pair h l c split hc e = ap (λ xs. items form xs) (split ∙ ap (λ xs. rest ++ xs) (sym e)) ∙ items-back_char form rest c hc

  pub items-last_fault : (u : ℕ) → us ≡ rest ++ u ∷ [] → IsFault form u → ((prefix : List ℕ) (h : ℕ) → rest ≡ prefix ++ h ∷ [] → ¬ (IsPair form h u)) → items form us ≡ items form rest ++ Fault u ∷ []
  items-last_fault u split hu apart = ap (λ xs. items form xs) split ∙ items-back_fault form rest u hu apart
