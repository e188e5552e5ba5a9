-- The first fault, the faults after it, and what is repaired there.
use Rattle.std.proofs.Common.{◌≡◌, ℕ, suc, ◌+◌, ◌<◌, Option, Some, None, List, [], ◌∷◌, ◌++◌, refl, sym, ap, ◌∙◌, subst, arith, length, map, set, take, drop, append_assoc}
use Rattle.std.proofs.Math.Seq.{take-add}
use Rattle.std.proofs.lemmas.List.{drop-drop, drop-map, drop-set-lt, map-append, take-append-drop, take-map, take_more_set}
use Rattle.std.specs.Prelude.{slice_index}
use Rattle.std.specs.Str.{chars as str_chars}
use Rattle.wide_forms.specs.EncodingForm.{EncodingForm, Utf16, Utf32, code_units, encode}
use Rattle.wide_forms.specs.Segmentation.{Item, Char, Fault, units_of}
use Rattle.wide_forms.specs.Items.{IsFirstFault, IsWellFormed, chars, items}
use Rattle.wide_forms.specs.Lossy.{lossy}
use Rattle.wide_forms.specs.Laws.Chains.{Chain}
use Rattle.wide_forms.specs.Laws.Ends.{items-append_left}
use Rattle.wide_forms.specs.Laws.Items.{chars-of_well_formed, items-chain, items-of_chain, units_of-items}
use Rattle.wide_forms.specs.Laws.Lossy.{encode-lossy}
use Rattle.wide_conversions.specs.Utf8Items.{HasFirstPart, utf8_items}
use Rattle.wide_unit.specs.Unit.{numbers_of}
use Rattle.wide_unit.proofs.Faults.{first_fault-first, first_fault-prefix, lossy-after_prefix}
use Rattle.wide_convert.specs.Texts.{faults_in}

pub faults_in-append : (is js : List Item) → faults_in (is ++ js) ≡ faults_in is + faults_in js
faults_in-append [] js = omega arith
faults_in-append (Char c ∷ is) js = faults_in-append is js
faults_in-append (Fault u ∷ is) js = omega (arith, faults_in-append is js)

pub faults_in-chars : (cs : List ℕ) → faults_in (map Char cs) ≡ 0
faults_in-chars [] = refl
faults_in-chars (c ∷ cs) = faults_in-chars cs

module _ (form : EncodingForm) (us : List ℕ) where
  -- Well-formed units have no faults.
  pub none-well_formed : IsWellFormed form us → faults_in (items form us) ≡ 0
  none-well_formed well = ap faults_in (chars-of_well_formed form us well) ∙ faults_in-chars (chars form us)

  -- The items after a fault at the beginning.
  after_fault : (u : ℕ) (rest : List Item) → items form us ≡ Fault u ∷ rest → items form (drop 1 us) ≡ rest
  after_fault u rest e =
      let joined : us ≡ u ∷ units_of form rest = sym (units_of-items form us) ∙ ap (units_of form) e in
      let chain : Chain form (Fault u ∷ rest) = subst (Chain form) e (items-chain form us) in
      ap (λ xs. items form (drop 1 xs)) joined ∙ items-of_chain form rest chain.2

-- A fault with the items after it.
pub first_fault-next : (form : EncodingForm) (us : List ℕ) (index item u : ℕ) → IsFirstFault form us index item u → items form (drop index us) ≡ Fault u ∷ items form (drop (index + 1) us)
first_fault-next form us index item u e =
    let first = first_fault-first form us index item u e in
    first.1 ∙ ap (λ is. Fault u ∷ is) (sym (after_fault form (drop index us) u first.0 first.1) ∙ ap (items form) (drop-drop 1 index us))

-- The faults are one more than those after the first one.
pub first_fault-count : (form : EncodingForm) (us : List ℕ) (index item u : ℕ) → IsFirstFault form us index item u → faults_in (items form us) ≡ suc (faults_in (items form (drop (index + 1) us)))
first_fault-count form us index item u e =
    let well = first_fault-prefix form us index item u e in
    let split : items form us ≡ items form (take index us) ++ items form (drop index us) = ap (items form) (sym (take-append-drop index us)) ∙ items-append_left form (take index us) (drop index us) well in
    let sum : faults_in (items form us) ≡ faults_in (items form (take index us)) + faults_in (items form (drop index us)) = ap faults_in split ∙ faults_in-append (items form (take index us)) (items form (drop index us)) in
    let next : faults_in (items form (drop index us)) ≡ suc (faults_in (items form (drop (index + 1) us))) = ap faults_in (first_fault-next form us index item u e) in
    omega (arith, sum, next, none-well_formed form (take index us) well)

-- Lossy text has the units before the first fault, a replacement character, and the lossy text of the units after it.
pub first_fault-lossy : (form : EncodingForm) (us : List ℕ) (index item u : ℕ) → IsFirstFault form us index item u
    → encode form (lossy (items form us)) ≡ take index us ++ (code_units form 0xFFFD ++ encode form (lossy (items form (drop (index + 1) us))))
first_fault-lossy form us index item u e =
    lossy-after_prefix form us index item u e ∙ ap (λ is. take index us ++ encode form (lossy is)) (first_fault-next form us index item u e)

-- The replacement character is one unit.
replacement-unit : (form : EncodingForm) → code_units form 0xFFFD ≡ 0xFFFD ∷ []
replacement-unit Utf16 = refl
replacement-unit Utf32 = refl

only_unit : {X : Type 0} (number : X → ℕ) (first : X) (second : Option X) (c : ℕ) → numbers_of number first second ≡ c ∷ [] → number first ≡ c
only_unit number first None c e = cc
only_unit number first (Some x) c e = absurd cc

module _ {X : Type 0} (form : EncodingForm) (number : X → ℕ) where
  pub replacement-number : (first : X) (second : Option X) → numbers_of number first second ≡ code_units form 0xFFFD → number first ≡ 0xFFFD
  replacement-number first second e = only_unit number first second 0xFFFD (e ∙ replacement-unit form)

  module _ (old : List X) (at index item u : ℕ) (r : X) (within : at + index < length old) (is : number r ≡ 0xFFFD) (fault : IsFirstFault form (map number (drop at old)) index item u) where
    -- The units after the fault are unchanged.
    repaired-back : map number (drop (at + (index + 1)) (set old (at + index) r)) ≡ drop (index + 1) (map number (drop at old))
    repaired-back =
        ap (map number) (drop-set-lt (at + (index + 1)) old (at + index) r (omega arith) ∙ sym (drop-drop (index + 1) at old)) ∙ sym (drop-map number (index + 1) (drop at old))

    repaired-front : map number (take (at + (index + 1)) (set old (at + index) r)) ≡ map number (take at old) ++ (take index (map number (drop at old)) ++ 0xFFFD ∷ [])
    repaired-front =
        let next : at + (index + 1) ≡ at + index + 1 = omega arith in
        let head = take index (drop at old) in
        ap (λ n. map number (take n (set old (at + index) r))) next
        ∙ ap (map number) (take_more_set old (at + index) r within ∙ ap (λ xs. xs ++ r ∷ []) (take-add at index old) ∙ append_assoc (take at old) head (r ∷ []))
        ∙ map-append number (take at old) (head ++ r ∷ [])
        ∙ ap (λ xs. map number (take at old) ++ xs) (map-append number head (r ∷ []) ∙ ap (λ xs. xs ++ number r ∷ []) (sym (take-map number index (drop at old))) ∙ ap (λ x. take index (map number (drop at old)) ++ x ∷ []) is)

    -- The repaired units and the lossy text of the others are the same after one more fault.
    pub repaired-more : map number (take (at + (index + 1)) (set old (at + index) r)) ++ encode form (lossy (items form (map number (drop (at + (index + 1)) (set old (at + index) r))))) ≡ map number (take at old) ++ encode form (lossy (items form (map number (drop at old))))
    repaired-more =
        let us = map number (drop at old) in
        let done = map number (take at old) in
        let rest = encode form (lossy (items form (drop (index + 1) us))) in
        ap (λ xs. xs ++ encode form (lossy (items form (map number (drop (at + (index + 1)) (set old (at + index) r)))))) repaired-front
        ∙ ap (λ xs. (done ++ (take index us ++ 0xFFFD ∷ [])) ++ encode form (lossy (items form xs))) repaired-back
        ∙ append_assoc done (take index us ++ 0xFFFD ∷ []) rest
        ∙ ap (λ xs. done ++ xs) (append_assoc (take index us) (0xFFFD ∷ []) rest ∙ ap (λ xs. take index us ++ (xs ++ rest)) (sym (replacement-unit form)) ∙ sym (first_fault-lossy form us index item u fault))

    pub repaired-count : faults_in (items form (map number (drop at old))) ≡ suc (faults_in (items form (map number (drop (at + (index + 1)) (set old (at + index) r)))))
    repaired-count = first_fault-count form (map number (drop at old)) index item u fault ∙ ap (λ us. suc (faults_in (items form us))) (sym repaired-back)

  -- All units are repaired once none is ill-formed from an offset on.
  pub repaired-all : (units : List X) (at : ℕ) → IsWellFormed form (map number (drop at units)) → map number units ≡ map number (take at units) ++ encode form (lossy (items form (map number (drop at units))))
  repaired-all units at well =
      ap (map number) (sym (take-append-drop at units)) ∙ map-append number (take at units) (drop at units) ∙ ap (λ xs. map number (take at units) ++ xs) (sym (encode-lossy form (map number (drop at units)) well))

-- Bytes have one fault more than those after the first fault.
pub first_part-count : (bs : List ℕ) (offset len : ℕ) → HasFirstPart bs offset len → faults_in (utf8_items bs) ≡ suc (faults_in (utf8_items (drop (offset + len) bs)))
first_part-count bs offset len part =
    let cs = str_chars (take offset bs) in
    let rest = utf8_items (drop (offset + len) bs) in
    let sum : faults_in (utf8_items bs) ≡ faults_in (map Char cs) + suc (faults_in rest) = ap faults_in part ∙ faults_in-append (map Char cs) (Fault (slice_index bs offset) ∷ rest) in
    omega (arith, sum, faults_in-chars cs)

pub none-text : (bs : List ℕ) → utf8_items bs ≡ map Char (str_chars bs) → faults_in (utf8_items bs) ≡ 0
none-text bs is = ap faults_in is ∙ faults_in-chars (str_chars bs)
