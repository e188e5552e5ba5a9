-- The first fault, and the characters before it.
use Rattle.std.proofs.Common.{◌≡◌, ℕ, ◌<◌, List, [], ◌∷◌, ◌++◌, Option, Some, None, refl, sym, ◌∙◌, ap, subst, arith, rules, length, length-append, take, drop, suc, zero}
use Rattle.std.specs.Prelude.{map, ◌↔◌}
use Rattle.std.specs.Char.{IsScalar}
use Rattle.std.specs.List.{All, Contains}
use Rattle.std.specs.Option.{option_map}
use Rattle.std.proofs.Math.Seq.{take-append_seam}
use Rattle.std.proofs.lemmas.List.{take-append-drop, append_cancel_left}
use Rattle.std.proofs.lemmas.List.Elements.{Contains-append_right}
use Rattle.wide_forms.specs.EncodingForm.{EncodingForm, encode}
use Rattle.wide_forms.specs.Segmentation.{Item, Char, Fault, units_of}
use Rattle.wide_forms.specs.Items.{items, chars, leading_characters, first_fault_unit, first_fault, IsWellFormed, IsFirstFault}
use Rattle.wide_forms.specs.Offsets.{chars_before}
use Rattle.wide_forms.specs.Lossy.{lossy}
use Rattle.wide_forms.specs.Laws.Chains.{Chain}
use Rattle.wide_forms.specs.Laws.Items.{items-chain, units_of-items, units_of-chars, IsWellFormed-of_chars, chars-of_well_formed, items-encode}
use Rattle.wide_forms.specs.Laws.Boundaries.{units_of-append}
use Rattle.wide_forms.specs.Laws.Ends.{items-append_left}
use Rattle.wide_forms.specs.Laws.Lossy.{lossy-after}
use Rattle.wide_forms.specs.Laws.Offsets.{IsWellFormed-encode, chars-encode}

leading-of : (prefix : List ℕ) (u : ℕ) (rest : List Item) → leading_characters (map Char prefix ++ Fault u ∷ rest) ≡ prefix
leading-of [] u rest = refl
leading-of (c ∷ prefix) u rest = ap (λ cs. c ∷ cs) (leading-of prefix u rest)

unit-of : (prefix : List ℕ) (u : ℕ) (rest : List Item) → first_fault_unit (map Char prefix ++ Fault u ∷ rest) ≡ Some u
unit-of [] u rest = refl
unit-of (c ∷ prefix) u rest = unit-of prefix u rest

pub first_fault-beyond : (form : EncodingForm) (prefix : List ℕ) (u : ℕ) (rest : List Item) → first_fault form (map Char prefix ++ Fault u ∷ rest) ≡ Some (length (encode form prefix), length prefix, u)
first_fault-beyond form prefix u rest =
    ap (λ o. option_map (λ v. (length (encode form (leading_characters (map Char prefix ++ Fault u ∷ rest))), length (leading_characters (map Char prefix ++ Fault u ∷ rest)), v)) o) (unit-of prefix u rest)
    ∙ ap (λ cs. Some (length (encode form cs), length cs, u)) (leading-of prefix u rest)

leading-split : (is : List Item) (u : ℕ) → first_fault_unit is ≡ Some u → (rest : List Item) × (is ≡ map Char (leading_characters is) ++ Fault u ∷ rest)
leading-split [] u e = absurd cc
leading-split (Char c ∷ is) u e = let tail = leading-split is u e in (tail.0, ap (λ js. Char c ∷ js) tail.1)
leading-split (Fault v ∷ is) u e = let same : v ≡ u = cc in (is, ap (λ w. Fault w ∷ is) same)

-- The index of a first fault, or 0 if there is none.
index_in : Option (ℕ × ℕ × ℕ) → ℕ
index_in None = 0
index_in (Some p) = p.0

item_in : Option (ℕ × ℕ × ℕ) → ℕ
item_in None = 0
item_in (Some p) = p.1

unit_in : Option (ℕ × ℕ × ℕ) → ℕ
unit_in None = 0
unit_in (Some p) = p.2

reported : (index item : ℕ) (o : Option ℕ) (n m u : ℕ) → option_map {U = ℕ × ℕ × ℕ} (λ v. (n, m, v)) o ≡ Some (index, item, u) → (o ≡ Some u) × (n ≡ index) × (m ≡ item)
unfolding unit_in index_in item_in
reported index item None n m u e = absurd cc
reported index item (Some v) n m u e = (ap (λ o. Some (unit_in o)) e, ap index_in e, ap item_in e)

none-reported : (o : Option ℕ) (n m : ℕ) → option_map {U = ℕ × ℕ × ℕ} (λ v. (n, m, v)) o ≡ None → o ≡ None
none-reported None n m e = refl
none-reported (Some v) n m e = absurd cc

-- Only characters precede a first fault.
pub first_fault-split : (form : EncodingForm) (us : List ℕ) (index item u : ℕ) → IsFirstFault form us index item u
    → (prefix : List ℕ) × (rest : List Item) × (items form us ≡ map Char prefix ++ Fault u ∷ rest) × (length (encode form prefix) ≡ index) × (length prefix ≡ item)
first_fault-split form us index item u e =
    let prefix = leading_characters (items form us) in
    let parts = reported index item (first_fault_unit (items form us)) (length (encode form prefix)) (length prefix) u e in
    let split = leading-split (items form us) u parts.0 in
    (prefix, split.0, split.1, parts.1, parts.2)

-- A fault that only characters precede is the first one.
pub IsFirstFault-of : (form : EncodingForm) (us prefix : List ℕ) (rest : List Item) (index item u : ℕ) → items form us ≡ map Char prefix ++ Fault u ∷ rest → length (encode form prefix) ≡ index → length prefix ≡ item
    → IsFirstFault form us index item u
IsFirstFault-of form us prefix rest index item u split at number =
    ap (first_fault form) split ∙ first_fault-beyond form prefix u rest ∙ ap (λ n. Some (n, length prefix, u)) at ∙ ap (λ n. Some (index, n, u)) number

-- The units are those of the characters before the first fault, then the fault, then others.
fault-joined : (form : EncodingForm) (us prefix : List ℕ) (u : ℕ) (rest : List Item) → items form us ≡ map Char prefix ++ Fault u ∷ rest → us ≡ encode form prefix ++ u ∷ units_of form rest
fault-joined form us prefix u rest split =
    sym (units_of-items form us) ∙ ap (units_of form) split ∙ units_of-append form (map Char prefix) (Fault u ∷ rest) ∙ ap (λ xs. xs ++ u ∷ units_of form rest) (units_of-chars form prefix)

prefix-taken : (form : EncodingForm) (us prefix : List ℕ) (u : ℕ) (rest : List Item) (index : ℕ) → items form us ≡ map Char prefix ++ Fault u ∷ rest → length (encode form prefix) ≡ index → take index us ≡ encode form prefix
prefix-taken form us prefix u rest index split at =
    ap (λ n. take n us) (sym at) ∙ ap (take (length (encode form prefix))) (fault-joined form us prefix u rest split) ∙ take-append_seam (encode form prefix) (u ∷ units_of form rest)

-- The index of the first fault is less than the length.
pub first_fault-below : (form : EncodingForm) (us : List ℕ) (index item u : ℕ) → IsFirstFault form us index item u → index < length us
first_fault-below form us index item u e =
    let (prefix, rest, split, at, number) = first_fault-split form us index item u e in
    omega (arith, ap length (fault-joined form us prefix u rest split), length-append (encode form prefix) (u ∷ units_of form rest), at)

-- Characters at the beginning of items are scalar values.
prefix-scalars : (form : EncodingForm) (cs : List ℕ) (is : List Item) → Chain form (map Char cs ++ is) → All IsScalar cs
prefix-scalars form [] is chain k d within = absurd (omega (arith, within))
prefix-scalars form (c ∷ cs) is chain zero d within = chain.0
prefix-scalars form (c ∷ cs) is chain (suc k) d within = prefix-scalars form cs is chain.2 k d (omega (arith, within))

-- The units before the first fault are well formed.
pub first_fault-prefix : (form : EncodingForm) (us : List ℕ) (index item u : ℕ) → IsFirstFault form us index item u → IsWellFormed form (take index us)
first_fault-prefix form us index item u e =
    let (prefix, rest, split, at, number) = first_fault-split form us index item u e in
    let scalars : All IsScalar prefix = prefix-scalars form prefix (Fault u ∷ rest) (subst (Chain form) split (items-chain form us)) in
    subst (IsWellFormed form) (sym (prefix-taken form us prefix u rest index split at)) (IsWellFormed-encode form prefix scalars)

-- The number of characters before the first fault is its item number.
pub first_fault-item : (form : EncodingForm) (us : List ℕ) (index item u : ℕ) → IsFirstFault form us index item u → item ≡ chars_before form us index
first_fault-item form us index item u e =
    let (prefix, rest, split, at, number) = first_fault-split form us index item u e in
    let scalars : All IsScalar prefix = prefix-scalars form prefix (Fault u ∷ rest) (subst (Chain form) split (items-chain form us)) in
    sym number ∙ ap length (sym (chars-encode form prefix scalars)) ∙ ap (λ vs. length (chars form vs)) (sym (prefix-taken form us prefix u rest index split at))

-- The units before the first fault are unchanged in the lossy text.
pub lossy-after_prefix : (form : EncodingForm) (us : List ℕ) (index item u : ℕ) → IsFirstFault form us index item u
    → encode form (lossy (items form us)) ≡ take index us ++ encode form (lossy (items form (drop index us)))
lossy-after_prefix form us index item u e =
    ap (λ xs. encode form (lossy (items form xs))) (sym (take-append-drop index us)) ∙ lossy-after form (take index us) (drop index us) (first_fault-prefix form us index item u e)

-- The first fault is the first item from its index on.
pub first_fault-first : (form : EncodingForm) (us : List ℕ) (index item u : ℕ) → IsFirstFault form us index item u → (rest : List Item) × (items form (drop index us) ≡ Fault u ∷ rest)
first_fault-first form us index item u e =
    let (prefix, rest, split, at, number) = first_fault-split form us index item u e in
    let scalars : All IsScalar prefix = prefix-scalars form prefix (Fault u ∷ rest) (subst (Chain form) split (items-chain form us)) in
    let before : items form (take index us) ≡ map Char prefix = ap (items form) (prefix-taken form us prefix u rest index split at) ∙ items-encode form prefix scalars in
    let joined : items form us ≡ map Char prefix ++ items form (drop index us) =
    ap (items form) (sym (take-append-drop index us)) ∙ items-append_left form (take index us) (drop index us) (first_fault-prefix form us index item u e) ∙ ap (λ is. is ++ items form (drop index us)) before
    in
    (rest, append_cancel_left (map Char prefix) (items form (drop index us)) (Fault u ∷ rest) (sym joined ∙ split))

contains_after : (is js : List Item) (i : Item) → Contains (is ++ i ∷ js) i
contains_after is js i = Contains-append_right is (i ∷ js) i (search rules)

-- Units with a first fault are not well formed.
pub first_fault-not_well_formed : (form : EncodingForm) (us : List ℕ) (index item u : ℕ) → IsFirstFault form us index item u → ¬ (IsWellFormed form us)
first_fault-not_well_formed form us index item u e well =
    let (prefix, rest, split, at, number) = first_fault-split form us index item u e in
    well.no_fault u (subst (λ is. Contains is (Fault u)) (sym split) (contains_after (map Char prefix) rest (Fault u)))

-- If there is no fault, the items are characters.
no_unit-chars : (is : List Item) → first_fault_unit is ≡ None → is ≡ map Char (leading_characters is)
no_unit-chars [] e = refl
no_unit-chars (Char c ∷ is) e = ap (λ js. Char c ∷ js) (no_unit-chars is e)
no_unit-chars (Fault u ∷ is) e = absurd cc

no_fault-reported : (form : EncodingForm) (cs : List ℕ) → first_fault form (map Char cs) ≡ None
no_fault-reported form cs = ap (λ o. option_map (λ v. (length (encode form (leading_characters (map Char cs))), length (leading_characters (map Char cs)), v)) o) (none cs)
  where
    none : (cs : List ℕ) → first_fault_unit (map Char cs) ≡ None
    none [] = refl
    none (c ∷ cs) = none cs

pub well_formed-first_fault : (form : EncodingForm) (us : List ℕ) → IsWellFormed form us ↔ (first_fault form (items form us) ≡ None)
well_formed-first_fault form us = (
  λ well. ap (first_fault form) (chars-of_well_formed form us well) ∙ no_fault-reported form (chars form us),
  λ e. IsWellFormed-of_chars form us (leading_characters (items form us)) (no_unit-chars (items form us) (none-reported (first_fault_unit (items form us)) (length (encode form (leading_characters (items form us)))) (length (leading_characters (items form us))) e)),
)
