-- Segmentations, item by item: proved for both encoding forms at once.
use Rattle.std.proofs.Common.{◌≡◌, ℕ, suc, zero, List, [], ◌∷◌, ◌++◌, inl, inr, refl, sym, ◌∙◌, ap, arith}
use Rattle.std.specs.Char.{IsScalar}
use Rattle.std.specs.List.{All}
use Rattle.std.proofs.lemmas.List.{append_cancel_left}
use Rattle.wide_forms.specs.EncodingForm.{EncodingForm, code_units, IsFault, IsPair}
use Rattle.wide_forms.specs.Segmentation.{Item, Char, Fault, item_units, units_of, IsItem, IsSegmentation}
use Rattle.wide_forms.specs.Laws.Forms.{code_units-cases, code_units-prefix, low-begins_nothing, unit-cases, pair-cases}

-- The item may directly precede the items: it is not a fault that is a pair with a fault at their beginning.
abbrev pub MayPrecede : EncodingForm → Item → List Item → Type 0
MayPrecede form (Char c) items = Unit {0}
MayPrecede form (Fault h) [] = Unit {0}
MayPrecede form (Fault h) (Char c ∷ items) = Unit {0}
MayPrecede form (Fault h) (Fault l ∷ items) = ¬ (IsPair form h l)

-- What `IsSegmentation` says of items without regard to units: each is a character or a fault, and no two adjacent
-- faults are a pair.
abbrev pub Chain : EncodingForm → List Item → Type 0
Chain form [] = Unit {0}
Chain form (i ∷ items) = IsItem form i × MayPrecede form i items × Chain form items

-- Each item is a character or a fault.
abbrev Proper : EncodingForm → List Item → Type 0
Proper form items = All (IsItem form) items

-- No two adjacent faults are a pair.
abbrev Unpaired : EncodingForm → List Item → Type 0
Unpaired form items = (prefix back : List Item) (h l : ℕ) → items ≡ prefix ++ Fault h ∷ Fault l ∷ back → ¬ (IsPair form h l)

may_precede-from : (form : EncodingForm) (i : Item) (items : List Item) → Unpaired form (i ∷ items) → MayPrecede form i items
may_precede-from form (Char c) items un = tt
may_precede-from form (Fault h) [] un = tt
may_precede-from form (Fault h) (Char c ∷ items) un = tt
may_precede-from form (Fault h) (Fault l ∷ items) un = un [] items h l refl

chain-from : (form : EncodingForm) (items : List Item) → Proper form items → Unpaired form items → Chain form items
chain-from form [] proper un = tt
chain-from form (i ∷ items) proper un =
    (proper 0 i (omega arith), may_precede-from form i items un, chain-from form items (λ k d within. proper (suc k) d (omega arith)) (λ prefix back h l e. un (i ∷ prefix) back h l (ap (λ is. i ∷ is) e)))

proper-from : (form : EncodingForm) (items : List Item) → Chain form items → Proper form items
proper-from form [] chain k d within = absurd (omega arith)
proper-from form (i ∷ items) chain zero d within = chain.0
proper-from form (i ∷ items) chain (suc k) d within = proper-from form items chain.2 k d (omega arith)

unpaired-from : (form : EncodingForm) (items prefix back : List Item) (h l : ℕ) → Chain form items → items ≡ prefix ++ Fault h ∷ Fault l ∷ back → ¬ (IsPair form h l)
unpaired-from form [] [] back h l chain e = absurd cc
unpaired-from form [] (j ∷ prefix) back h l chain e = absurd cc
unpaired-from form (i ∷ items) (j ∷ prefix) back h l chain e =
    let rest : items ≡ prefix ++ Fault h ∷ Fault l ∷ back = cc in
    unpaired-from form items prefix back h l chain.2 rest
unpaired-from form (i ∷ items) [] back h l chain e =
    let head : i ≡ Fault h = cc in
    let rest : items ≡ Fault l ∷ back = cc in
    let at : MayPrecede form (Fault h) (Fault l ∷ back) = rw (head, rest) at chain.1 in
    at

-- The items of a segmentation are a chain.
pub chain_of : (form : EncodingForm) (items : List Item) (units : List ℕ) → IsSegmentation form items units → Chain form items
chain_of form items units seg = chain-from form items seg.proper seg.unpaired

-- A chain is a segmentation of its units.
pub IsSegmentation-of_chain : (form : EncodingForm) (items : List Item) (units : List ℕ) → Chain form items → units_of form items ≡ units → IsSegmentation form items units
IsSegmentation-of_chain form items units chain joined = record { joined = joined; proper = proper-from form items chain; unpaired = λ prefix back h l e. unpaired-from form items prefix back h l chain e }

-- An item has at least one unit.
pub nonempty : (form : EncodingForm) (i : Item) (xs : List ℕ) → item_units form i ++ xs ≡ [] → ⊥
nonempty form (Char c) xs e = elim (code_units-cases form c) [
  | inl one ↦ (let f : one.0 ∷ xs ≡ [] = rw one.1 at e in cc)
  | inr two ↦ (let f : two.0 ∷ two.1 ∷ xs ≡ [] = rw two.2 at e in cc)
]
nonempty form (Fault u) xs e = cc

-- After the first unit of a pair, no chain that may follow begins with the second.
pub second-begins_nothing : (form : EncodingForm) (h l : ℕ) (items : List Item) (xs : List ℕ) → IsPair form h l → MayPrecede form (Fault h) items → Chain form items → units_of form items ≡ l ∷ xs → ⊥
second-begins_nothing form h l [] xs pair may chain e = cc
second-begins_nothing form h l (Char d ∷ items) xs pair may chain e = low-begins_nothing form h l d xs (units_of form items) pair chain.0 e
second-begins_nothing form h l (Fault u ∷ items) xs pair may chain e =
    let same : u ≡ l = cc in
    may (rw same pair)

-- A character and a fault never begin the same units.
char-or_fault : (form : EncodingForm) (c u : ℕ) (items : List Item) (xs : List ℕ) → IsScalar c → IsFault form u → MayPrecede form (Fault u) items → Chain form items
    → code_units form c ++ xs ≡ u ∷ units_of form items → ⊥
char-or_fault form c u items xs hc hu may chain e = elim (code_units-cases form c) [
  | inl one ↦ (let f : one.0 ∷ xs ≡ u ∷ units_of form items = rw one.1 at e in
      let same : one.0 ≡ u = cc in
      hu c hc (one.1 ∙ ap (λ x. x ∷ []) same))
  | inr two ↦ (let f : two.0 ∷ two.1 ∷ xs ≡ u ∷ units_of form items = rw two.2 at e in
      let same : two.0 ≡ u = cc in
      let rest : units_of form items ≡ two.1 ∷ xs = cc in
      second-begins_nothing form u two.1 items xs (c, hc, two.2 ∙ ap (λ x. x ∷ two.1 ∷ []) same) may chain rest)
]

-- Chains of the same units are equal.
pub chain-unique : (form : EncodingForm) (is js : List Item) → Chain form is → Chain form js → units_of form is ≡ units_of form js → is ≡ js
chain-unique form [] [] ci cj e = refl
chain-unique form [] (j ∷ js) ci cj e = absurd (nonempty form j (units_of form js) (sym e))
chain-unique form (i ∷ is) [] ci cj e = absurd (nonempty form i (units_of form is) e)
chain-unique form (Char c ∷ is) (Char d ∷ js) ci cj e =
    let same : c ≡ d = code_units-prefix form c d _ _ ci.0 cj.0 e in
    let f : code_units form c ++ units_of form is ≡ code_units form c ++ units_of form js = e ∙ ap (λ x. code_units form x ++ units_of form js) (sym same) in
    let rest = chain-unique form is js ci.2 cj.2 (append_cancel_left (code_units form c) _ _ f) in
    cc
chain-unique form (Char c ∷ is) (Fault u ∷ js) ci cj e = absurd (char-or_fault form c u js _ ci.0 cj.0 cj.1 cj.2 e)
chain-unique form (Fault u ∷ is) (Char c ∷ js) ci cj e = absurd (char-or_fault form c u is _ cj.0 ci.0 ci.1 ci.2 (sym e))
chain-unique form (Fault u ∷ is) (Fault v ∷ js) ci cj e =
    let same : u ≡ v = cc in
    let f : units_of form is ≡ units_of form js = cc in
    let rest = chain-unique form is js ci.2 cj.2 f in
    cc

-- The units have a chain.
abbrev ChainFor : EncodingForm → List ℕ → Type 0
ChainFor form units = (items : List Item) × Chain form items × (units_of form items ≡ units)

with_fault : (form : EncodingForm) (u : ℕ) (units : List ℕ) → IsFault form u → (items : List Item) → Chain form items → units_of form items ≡ units → ChainFor form (u ∷ units)
with_fault form u units hu [] chain e = (Fault u ∷ [], (hu, tt, tt), ap (λ xs. u ∷ xs) e)
with_fault form u units hu (Char c ∷ items) chain e = (Fault u ∷ Char c ∷ items, (hu, tt, chain), ap (λ xs. u ∷ xs) e)
with_fault form u units hu (Fault l ∷ items) chain e = elim (pair-cases form u l) [
  | inl pair ↦ (Char pair.0 ∷ items, (pair.1, tt, chain.2), ap (λ xs. xs ++ units_of form items) pair.2 ∙ ap (λ xs. u ∷ xs) e)
  | inr apart ↦ (Fault u ∷ Fault l ∷ items, (hu, apart, chain), ap (λ xs. u ∷ xs) e)
]

-- Each list of units has a chain, built from the end.
pub chain_for : (form : EncodingForm) (units : List ℕ) → ChainFor form units
chain_for form [] = ([], tt, refl)
chain_for form (u ∷ units) =
    let rest = chain_for form units in
    elim (unit-cases form u) [
      | inl one ↦ (Char one.0 ∷ rest.0, (one.1, tt, rest.1), ap (λ xs. xs ++ units_of form rest.0) one.2 ∙ ap (λ xs. u ∷ xs) rest.2)
      | inr fault ↦ with_fault form u units fault rest.0 rest.1 rest.2
    ]
