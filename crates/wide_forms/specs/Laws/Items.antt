-- The laws of items: there is only one segmentation; concatenated lists; characters and their encoding.
use Rattle.std.proofs.Common.{◌≡◌, ℕ, suc, zero, ◌*◌, ◌<◌, ◌≤◌, List, [], ◌∷◌, ◌++◌, inl, inr, refl, sym, ◌∙◌, ap, arith, length, get_or, append_assoc, length-append, subst}
use Rattle.std.specs.Prelude.{map}
use Rattle.std.specs.Char.{IsScalar}
use Rattle.std.specs.List.{All, Contains}
use Rattle.std.proofs.lemmas.Bool.{cases_lt}
use Rattle.std.proofs.lemmas.List.{append-nil}
use Rattle.std.proofs.lemmas.List.Concat.{flat_map-append}
use Rattle.wide_forms.specs.EncodingForm.{EncodingForm, Utf16, code_units, encode, IsFault, IsPair}
use Rattle.wide_forms.specs.Segmentation.{Item, Char, Fault, item_units, units_of, IsSegmentation}
use Rattle.wide_forms.specs.Items.{items, items-segment, IsWellFormed, characters, chars}
use Rattle.wide_forms.specs.Laws.Forms.{one_unit, two_units}
use Rattle.wide_forms.specs.Laws.Chains.{MayPrecede, Chain, chain_of, IsSegmentation-of_chain, chain-unique}

-- Splitting between the two lists splits no pair.
abbrev pub IsCut : EncodingForm → List ℕ → List ℕ → Type 0
IsCut form a b = (prefix back : List ℕ) (h l : ℕ) → a ≡ prefix ++ h ∷ [] → b ≡ l ∷ back → ¬ (IsPair form h l)

-- Each list of units has exactly one segmentation.
pub segmentation-unique : (form : EncodingForm) (is js : List Item) (units : List ℕ) → IsSegmentation form is units → IsSegmentation form js units → is ≡ js
segmentation-unique form is js units a b = chain-unique form is js (chain_of form is units a) (chain_of form js units b) (a.joined ∙ sym b.joined)

-- A segmentation of the units is `items`.
pub items-unique : (form : EncodingForm) (is : List Item) (units : List ℕ) → IsSegmentation form is units → items form units ≡ is
items-unique form is units seg = segmentation-unique form (items form units) is units (items-segment form units) seg

-- The items of units are a chain.
pub items-chain : (form : EncodingForm) (units : List ℕ) → Chain form (items form units)
items-chain form units = chain_of form (items form units) units (items-segment form units)

-- The items of the units of a chain are the chain.
pub items-of_chain : (form : EncodingForm) (is : List Item) → Chain form is → items form (units_of form is) ≡ is
items-of_chain form is chain = items-unique form is (units_of form is) (IsSegmentation-of_chain form is (units_of form is) chain refl)

-- The units of the items of some units are these units.
pub units_of-items : (form : EncodingForm) (units : List ℕ) → units_of form (items form units) ≡ units
units_of-items form units = (items-segment form units).joined

-- If no pair is split after an item, the item may precede what follows.
precedes_across : (form : EncodingForm) (i : Item) (b : List Item) → IsCut form (item_units form i) (units_of form b) → MayPrecede form i b
precedes_across form (Char c) b cut = tt
precedes_across form (Fault h) [] cut = tt
precedes_across form (Fault h) (Char c ∷ b) cut = tt
precedes_across form (Fault h) (Fault l ∷ b) cut = cut [] (units_of form b) h l refl refl

-- Two chains make one if no pair is split between them.
chain-append : (form : EncodingForm) (a b : List Item) → Chain form a → Chain form b → IsCut form (units_of form a) (units_of form b) → Chain form (a ++ b)
chain-append form [] b ca cb cut = cb
chain-append form (i ∷ []) b ca cb cut =
    (ca.0, precedes_across form i b (λ prefix back h l e f. cut prefix back h l (append-nil (item_units form i) ∙ e) f), cb)
chain-append form (i ∷ j ∷ a) b ca cb cut =
    (ca.0, may_precede-append form i j a b ca.1, chain-append form (j ∷ a) b ca.2 cb (λ prefix back h l e f. cut (item_units form i ++ prefix) back h l (ap (λ xs. item_units form i ++ xs) e ∙ sym (append_assoc (item_units form i) prefix (h ∷ []))) f))
  where
    may_precede-append : (form : EncodingForm) (i j : Item) (a b : List Item) → MayPrecede form i (j ∷ a) → MayPrecede form i (j ∷ a ++ b)
    may_precede-append form (Char c) j a b may = tt
    may_precede-append form (Fault h) (Char c) a b may = tt
    may_precede-append form (Fault h) (Fault l) a b may = may

-- The items of concatenated lists are the concatenated items, if no pair is split between them.
pub items-append : (form : EncodingForm) (a b : List ℕ) → IsCut form a b → items form (a ++ b) ≡ items form a ++ items form b
items-append form a b cut =
    let ja = units_of-items form a in
    let jb = units_of-items form b in
    let chain : Chain form (items form a ++ items form b) = chain-append form (items form a) (items form b) (items-chain form a) (items-chain form b) (rw (ja, jb) cut) in
    let joined : units_of form (items form a ++ items form b) ≡ a ++ b = flat_map-append (item_units form) (items form a) (items form b) ∙ ap (λ xs. xs ++ units_of form (items form b)) ja ∙ ap (λ xs. a ++ xs) jb in
    items-unique form (items form a ++ items form b) (a ++ b) (IsSegmentation-of_chain form (items form a ++ items form b) (a ++ b) chain joined)

-- Items without a fault are characters.
no_fault-chars : (is : List Item) → ((u : ℕ) → ¬ (Contains is (Fault u))) → is ≡ map Char (characters is)
no_fault-chars [] none = refl
no_fault-chars (Char c ∷ is) none = ap (λ js. Char c ∷ js) (no_fault-chars is (λ u at. none u (suc at.0, omega (arith, at.1), at.2)))
no_fault-chars (Fault u ∷ is) none = absurd (none u (0, omega arith, refl))

chars-no_contained : (cs : List ℕ) (u k : ℕ) → k < length (map Char cs) → get_or (map Char cs) k (Fault u) ≡ Fault u → ⊥
chars-no_contained [] u k within e = omega arith
chars-no_contained (c ∷ cs) u zero within e = cc
chars-no_contained (c ∷ cs) u (suc k) within e = chars-no_contained cs u k (omega arith) e

-- Well-formed units consist of characters only.
pub chars-of_well_formed : (form : EncodingForm) (us : List ℕ) → IsWellFormed form us → items form us ≡ map Char (chars form us)
chars-of_well_formed form us well = no_fault-chars (items form us) well.no_fault

-- Units that consist of characters only are well formed.
pub IsWellFormed-of_chars : (form : EncodingForm) (us cs : List ℕ) → items form us ≡ map Char cs → IsWellFormed form us
IsWellFormed-of_chars form us cs e = record { no_fault = λ u at. let f = subst (λ is. Contains is (Fault u)) e at in chars-no_contained cs u f.0 f.1 f.2 }

-- No units have no items.
pub items-nil : (form : EncodingForm) → items form [] ≡ []
items-nil form = items-of_chain form [] tt

-- The units of a character are one item, the character.
pub items-code_units : (form : EncodingForm) (c : ℕ) → IsScalar c → items form (code_units form c) ≡ Char c ∷ []
items-code_units form c hc = ap (λ us. items form us) (sym (append-nil (code_units form c))) ∙ items-of_chain form (Char c ∷ []) (hc, tt, tt)

-- A fault alone is one item.
pub items-fault : (form : EncodingForm) (u : ℕ) → IsFault form u → items form (u ∷ []) ≡ Fault u ∷ []
items-fault form u hu = items-of_chain form (Fault u ∷ []) (hu, tt, tt)

-- Characters are a chain.
chain-chars : (form : EncodingForm) (cs : List ℕ) → All IsScalar cs → Chain form (map Char cs)
chain-chars form [] scalars = tt
chain-chars form (c ∷ cs) scalars = (scalars 0 c (omega arith), tt, chain-chars form cs (λ k d within. scalars (suc k) d (omega arith)))

-- The units of characters are their encoding.
pub units_of-chars : (form : EncodingForm) (cs : List ℕ) → units_of form (map Char cs) ≡ encode form cs
units_of-chars form [] = refl
units_of-chars form (c ∷ cs) = ap (λ us. code_units form c ++ us) (units_of-chars form cs)

-- The encoding of characters decodes to them.
pub items-encode : (form : EncodingForm) (cs : List ℕ) → All IsScalar cs → items form (encode form cs) ≡ map Char cs
items-encode form cs scalars = ap (λ us. items form us) (sym (units_of-chars form cs)) ∙ items-of_chain form (map Char cs) (chain-chars form cs scalars)

-- Well-formed units are the encoding of their characters.
pub encode-of_items : (form : EncodingForm) (cs us : List ℕ) → items form us ≡ map Char cs → encode form cs ≡ us
encode-of_items form cs us e = sym (units_of-chars form cs) ∙ ap (λ is. units_of form is) (sym e) ∙ units_of-items form us

scalars-of_chain : (form : EncodingForm) (cs : List ℕ) → Chain form (map Char cs) → All IsScalar cs
scalars-of_chain form [] chain k d within = absurd (omega arith)
scalars-of_chain form (c ∷ cs) chain zero d within = chain.0
scalars-of_chain form (c ∷ cs) chain (suc k) d within = scalars-of_chain form cs chain.2 k d (omega arith)

-- Characters that are the items of some units are scalar values.
pub scalars-of_items : (form : EncodingForm) (cs us : List ℕ) → items form us ≡ map Char cs → All IsScalar cs
scalars-of_items form cs us e = scalars-of_chain form cs (rw e at (items-chain form us))

-- Units are equal exactly if their characters are.
pub same_units : (form : EncodingForm) (us vs cs ds : List ℕ) → items form us ≡ map Char cs → items form vs ≡ map Char ds → cs ≡ ds → us ≡ vs
same_units form us vs cs ds a b e = sym (encode-of_items form cs us a) ∙ ap (λ x. encode form x) e ∙ encode-of_items form ds vs b

-- In UTF-16 an item is one unit or two.
length-item16 : (i : Item) → length (item_units Utf16 i) ≤ 2
length-item16 (Fault u) = omega arith
length-item16 (Char c) = elim (cases_lt c 0x1_0000) [ inl below ↦ rw (one_unit c below) (omega arith) | inr from ↦ rw (two_units c from) (omega arith) ]

length-units16 : (is : List Item) → length (units_of Utf16 is) ≤ 2 * length is
length-units16 [] = omega arith
length-units16 (i ∷ is) = omega (arith, length-item16 i, length-units16 is, length-append (item_units Utf16 i) (units_of Utf16 is))

-- In UTF-16 there are at least half as many items as units.
pub length-items16 : (us : List ℕ) → length us ≤ 2 * length (items Utf16 us)
length-items16 us = omega (arith, length-units16 (items Utf16 us), ap length (units_of-items Utf16 us))
