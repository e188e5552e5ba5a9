-- A chunk of UTF-16: its items, and the fault or the incomplete character after them.
use Rattle.std.proofs.Common.{◌≡◌, ℕ, suc, ◌+◌, ◌-◌, ◌*◌, ◌/◌, ◌<◌, ◌≤◌, List, [], ◌∷◌, ◌++◌, Bool, true, false, length, length-drop, length-take-le, take, drop, map, refl, sym, ap, ◌∙◌, subst, arith, append_assoc}
use Rattle.std.specs.Prelude.{slice_index}
use Rattle.std.proofs.lemmas.List.{append-nil, drop-append-le, drop-drop, drop-take, map-append, take-append-drop, take-take, take_all}
use Rattle.std.proofs.Math.Seq.{drop-cons}
use Rattle.wide_forms.specs.EncodingForm.{Utf16 as Utf16Form, IsHighSurrogate}
use Rattle.wide_forms.specs.Items.{items, chars, IsFirstFault, IsWellFormed}
use Rattle.wide_forms.specs.Segmentation.{Item, Char, Fault, units_of}
use Rattle.wide_forms.specs.Laws.Chains.{Chain}
use Rattle.wide_forms.specs.Laws.Ends.{IsCut-after}
use Rattle.wide_forms.specs.Laws.Items.{IsCut, chars-of_well_formed, items-append, items-chain, items-nil, items-of_chain, units_of-items}
use Rattle.wide_unit.specs.CodePoints.{code_of, code_points}
use Rattle.wide_unit.proofs.Faults.{first_fault-first, first_fault-prefix}
use Rattle.wide_bytes.specs.Bytes.{unit_in, units_in}
use Rattle.wide_bytes.specs.declared.order.BoM.{BoM}
use Rattle.wide_bytes.proofs.Pairs.{length-units_in, units_in-append, units_in-short}
use Rattle.wide_bytes.proofs.UnitLists.{units_in-take, units_in-drop}
use Rattle.wide_schemes.specs.Layouts.{BeginsWithFault, Decodes, IsBeginning, IsIncomplete, MayFollow, items_in}
use Rattle.wide_schemes.specs.declared.layout.Layout.TheVariants.{Utf16}
use Rattle.wide_schemes.proofs.TextPrefixes.{codes-of_chars}

module _ (order : BoM) (bytes us : List ℕ) (count : ℕ) (filled : us ≡ take count (units_in order bytes)) (within : 2 * count ≤ length bytes) where
  -- The units after the first `count`.
  abbrev pub next : List ℕ → List ℕ
  next more = units_in order (drop (2 * count) bytes ++ more)

  -- The units from one of the first on.
  pub units-from : (c : ℕ) → c ≤ count → (more : List ℕ) → units_in order (drop (2 * c) bytes ++ more) ≡ drop c us ++ next more
  units-from c few more =
      let x = drop (2 * c) bytes in
      let k = count - c in
      let long : length (take (2 * k) x) ≡ 2 * k = length-take-le (2 * k) x (omega (arith, length-drop (2 * c) bytes, within, few)) in
      let rest : drop (2 * k) x ≡ drop (2 * count) bytes = drop-drop (2 * k) (2 * c) bytes ∙ ap (λ m. drop m bytes) (omega (arith, few)) in
      let front : units_in order (take (2 * k) x) ≡ drop c us = units_in-take order k x ∙ ap (take k) (units_in-drop order c bytes) ∙ sym (drop-take c k (units_in order bytes)) ∙ ap (λ m. drop c (take m (units_in order bytes))) (omega (arith, few)) ∙ ap (drop c) (sym filled) in
      ap (λ xs. units_in order (xs ++ more)) (sym (take-append-drop (2 * k) x)) ∙ ap (units_in order) (append_assoc (take (2 * k) x) (drop (2 * k) x) more) ∙ units_in-append order (take (2 * k) x) (drop (2 * k) x ++ more) (omega (arith, long))
      ∙ ap (λ xs. xs ++ units_in order (drop (2 * k) x ++ more)) front ∙ ap (λ xs. drop c us ++ units_in order (xs ++ more)) rest

  whole : (more : List ℕ) → units_in order (bytes ++ more) ≡ us ++ next more
  whole more = units-from 0 (omega arith) more

  -- All units, where the first `c` of them are cut from the others.
  split-at : (c : ℕ) → c ≤ count → (more : List ℕ) → units_in order (bytes ++ more) ≡ take c us ++ units_in order (drop (2 * c) bytes ++ more)
  split-at c few more = whole more ∙ ap (λ xs. xs ++ next more) (sym (take-append-drop c us)) ∙ append_assoc (take c us) (drop c us) (next more) ∙ ap (λ xs. take c us ++ xs) (sym (units-from c few more))

  decodes-by : (keeps : Bool) (c : ℕ) (more : List ℕ) → IsCut Utf16Form (take c us) (units_in order (drop (2 * c) bytes ++ more)) → (keeps ≡ false → IsWellFormed Utf16Form (take c us)) → c ≤ count
      → items_in (Utf16 order) keeps false (bytes ++ more) ≡ map Char (code_points Utf16Form (take c us)) ++ items_in (Utf16 order) keeps false (drop (2 * c) bytes ++ more)
  decodes-by true c more cut well few =
      let rest = units_in order (drop (2 * c) bytes ++ more) in
      ap (λ xs. map Char (code_points Utf16Form xs)) (split-at c few more) ∙ ap (λ is. map Char (map code_of is)) (items-append Utf16Form (take c us) rest cut) ∙ ap (map Char) (map-append code_of (items Utf16Form (take c us)) (items Utf16Form rest)) ∙ map-append Char (code_points Utf16Form (take c us)) (code_points Utf16Form rest)
  decodes-by false c more cut well few =
      let rest = units_in order (drop (2 * c) bytes ++ more) in
      let front = chars-of_well_formed Utf16Form (take c us) (well refl) in
      ap (items Utf16Form) (split-at c few more) ∙ items-append Utf16Form (take c us) rest cut ∙ ap (λ is. is ++ items Utf16Form rest) (front ∙ ap (map Char) (sym (codes-of_chars (take c us) (chars Utf16Form (take c us)) front)))

  module _ (last : Bool) (c : ℕ) (few : c ≤ count) (cut : (more : List ℕ) → MayFollow last more → IsCut Utf16Form (take c us) (drop c us ++ next more)) where
    cut-rest : (more : List ℕ) → MayFollow last more → IsCut Utf16Form (take c us) (units_in order (drop (2 * c) bytes ++ more))
    cut-rest more may = subst (IsCut Utf16Form (take c us)) (sym (units-from c few more)) (cut more may)

    -- The first `c` units are items whatever follows.
    pub certain-decodes : (keeps : Bool) → (keeps ≡ false → IsWellFormed Utf16Form (take c us)) → Decodes (Utf16 order) keeps false bytes last (2 * c) (take c us) false
    certain-decodes keeps well more may = decodes-by keeps c more (cut-rest more may) well few

    module _ (index item u : ℕ) (before : index < c) (fault : IsFirstFault Utf16Form (take c us) index item u) where
      prefix-well : IsWellFormed Utf16Form (take index us)
      prefix-well = subst (IsWellFormed Utf16Form) (take-take index c us (omega (arith, before))) (first_fault-prefix Utf16Form (take c us) index item u fault)

      -- The units before a fault are items.
      pub fault-decodes : (keeps : Bool) → Decodes (Utf16 order) keeps false bytes last (2 * index) (take index us) false
      fault-decodes keeps more may = decodes-by keeps index more (IsCut-after Utf16Form (take index us) (units_in order (drop (2 * index) bytes ++ more)) prefix-well) (λ k. prefix-well) (omega (arith, before, few))

      pub fault-well : IsWellFormed Utf16Form (take index us)
      fault-well = prefix-well

      v : List ℕ
      v = drop index (take c us)

      beyond-items : List Item
      beyond-items = (first_fault-first Utf16Form (take c us) index item u fault).0

      are-items : items Utf16Form v ≡ Fault u ∷ beyond-items
      unfolding v beyond-items
      are-items = (first_fault-first Utf16Form (take c us) index item u fault).1

      t : List ℕ
      t = units_of Utf16Form beyond-items

      v-is : v ≡ u ∷ t
      unfolding t
      v-is = sym (units_of-items Utf16Form v) ∙ ap (units_of Utf16Form) are-items

      t-items : items Utf16Form t ≡ beyond-items
      unfolding t
      t-items = (let chain : Chain Utf16Form (Fault u ∷ beyond-items) = subst (Chain Utf16Form) are-items (items-chain Utf16Form v) in items-of_chain Utf16Form beyond-items chain.2)

      long : length us ≡ count
      long = ap length filled ∙ length-take-le count (units_in order bytes) (omega (arith, within, length-units_in order bytes))

      from-fault : drop index us ≡ v ++ drop c us
      unfolding v
      from-fault = ap (drop index) (sym (take-append-drop c us)) ∙ drop-append-le index (take c us) (drop c us) (omega (arith, before, length-take-le c us (omega (arith, few, long))))

      from-beyond : drop (suc index) us ≡ t ++ drop c us
      from-beyond =
          let next' : suc index ≡ index + 1 = omega arith in
          ap (λ m. drop m us) next' ∙ sym (drop-drop 1 index us) ∙ ap (drop 1) (from-fault ∙ ap (λ xs. xs ++ drop c us) v-is)

      cut-v : (more : List ℕ) → MayFollow last more → IsCut Utf16Form v (drop c us ++ next more)
      unfolding v
      cut-v more may prefix back h l e f = cut more may (take index (take c us) ++ prefix) back h l (sym (take-append-drop index (take c us)) ∙ ap (λ xs. take index (take c us) ++ xs) e ∙ sym (append_assoc (take index (take c us)) prefix (h ∷ []))) f

      cut-t : (more : List ℕ) → MayFollow last more → IsCut Utf16Form t (drop c us ++ next more)
      cut-t more may prefix back h l e f = cut-v more may (u ∷ prefix) back h l (v-is ∙ ap (λ xs. u ∷ xs) e) f

      units-fault : (more : List ℕ) → units_in order (drop (2 * index) bytes ++ more) ≡ v ++ (drop c us ++ next more)
      units-fault more = units-from index (omega (arith, before, few)) more ∙ ap (λ xs. xs ++ next more) from-fault ∙ append_assoc v (drop c us) (next more)

      units-beyond : (more : List ℕ) → units_in order (drop 2 (drop (2 * index) bytes) ++ more) ≡ t ++ (drop c us ++ next more)
      units-beyond more =
          let two : drop 2 (drop (2 * index) bytes) ≡ drop (2 * suc index) bytes = drop-drop 2 (2 * index) bytes ∙ ap (λ m. drop m bytes) (omega arith) in
          ap (λ xs. units_in order (xs ++ more)) two ∙ units-from (suc index) (omega (arith, before, few)) more ∙ ap (λ xs. xs ++ next more) from-beyond ∙ append_assoc t (drop c us) (next more)

      fault-first : (more : List ℕ) → MayFollow last more → items Utf16Form (units_in order (drop (2 * index) bytes ++ more)) ≡ Fault u ∷ items Utf16Form (units_in order (drop 2 (drop (2 * index) bytes) ++ more))
      fault-first more may =
          let rest = drop c us ++ next more in
          let here = ap (items Utf16Form) (units-fault more) ∙ items-append Utf16Form v rest (cut-v more may) ∙ ap (λ is. is ++ items Utf16Form rest) are-items in
          let beyond = ap (items Utf16Form) (units-beyond more) ∙ items-append Utf16Form t rest (cut-t more may) ∙ ap (λ is. is ++ items Utf16Form rest) t-items in
          here ∙ ap (λ is. Fault u ∷ is) (sym beyond)

      -- The unit at the index is a fault whatever follows.
      pub fault-begins16 : BeginsWithFault (Utf16 order) false false (drop (2 * index) bytes) last u 2
      fault-begins16 = record {
        some = omega arith;
        within = omega (arith, length-drop (2 * index) bytes, within, few, before);
        whole = omega arith;
        first = fault-first;
      }

-- At most one high surrogate, and half a unit, are the beginning of a character.
beginning-high : (order : BoM) (rest : List ℕ) (u : ℕ) (tail : List ℕ) → 2 ≤ length rest → length rest < 4 → units_in order rest ≡ u ∷ tail → IsHighSurrogate Utf16Form u → IsBeginning (Utf16 order) rest
unfolding units_in
beginning-high order [] u tail some few e high = absurd (omega arith)
beginning-high order (a ∷ []) u tail some few e high = absurd (omega arith)
beginning-high order (a ∷ b ∷ []) u tail some few e high = (let same : unit_in order a b ≡ u = cc in subst (IsHighSurrogate Utf16Form) (sym same) high)
beginning-high order (a ∷ b ∷ c ∷ []) u tail some few e high = (let same : unit_in order a b ≡ u = cc in subst (IsHighSurrogate Utf16Form) (sym same) high)
beginning-high order (a ∷ b ∷ c ∷ d ∷ rest) u tail some few e high = absurd (omega arith)

beginning-half : (order : BoM) (rest : List ℕ) → length rest ≡ 1 → IsBeginning (Utf16 order) rest
beginning-half order [] one = absurd (omega arith)
beginning-half order (a ∷ []) one = tt
beginning-half order (a ∷ b ∷ rest) one = absurd (omega arith)

no-item : (order : BoM) (keeps : Bool) (rest : List ℕ) → length rest < 2 → items_in (Utf16 order) keeps false rest ≡ []
no-item order true rest short = ap (λ us. map Char (code_points Utf16Form us)) (units_in-short order rest short) ∙ ap (λ is. map Char (map code_of is)) (items-nil Utf16Form)
no-item order false rest short = ap (items Utf16Form) (units_in-short order rest short) ∙ items-nil Utf16Form

-- Half a unit is left.
pub half-incomplete : (order : BoM) (keeps : Bool) (rest : List ℕ) (last : Bool) → length rest ≡ 1 → IsIncomplete (Utf16 order) keeps false rest last
half-incomplete order keeps rest last one = record {
  some = omega (arith, one);
  few = omega (arith, one);
  beginning = beginning-half order rest one;
  no_item = λ l. no-item order keeps rest (omega (arith, one));
  part = λ l. omega (arith, one);
}

-- A high surrogate is left, which more units may follow.
pub high-incomplete : (order : BoM) (keeps : Bool) (bytes us : List ℕ) (c : ℕ) (last : Bool) → us ≡ take (suc c) (units_in order bytes) → 2 * suc c ≤ length bytes → length bytes < 2 * suc c + 2 → IsHighSurrogate Utf16Form (slice_index us c) → last ≡ false
    → IsIncomplete (Utf16 order) keeps false (drop (2 * c) bytes) last
high-incomplete order keeps bytes us c last filled within short high not_last =
    let rest = drop (2 * c) bytes in
    let long : length rest ≡ length bytes - 2 * c = length-drop (2 * c) bytes in
    let units : length (units_in order bytes) ≡ suc c = omega (arith, length-units_in order bytes, within, short) in
    let same : us ≡ units_in order bytes = filled ∙ take_all (suc c) (units_in order bytes) (omega (arith, units)) in
    let first : units_in order rest ≡ slice_index us c ∷ drop (suc c) us = units_in-drop order c bytes ∙ ap (drop c) (sym same) ∙ drop-cons us c 0 (omega (arith, units, ap length same)) in
    record {
      some = omega (arith, long, within);
      few = omega (arith, long, short);
      beginning = beginning-high order rest (slice_index us c) (drop (suc c) us) (omega (arith, long, within)) (omega (arith, long, short)) first high;
      no_item = λ l. absurd cc;
      part = λ l. absurd cc;
    }

-- No units follow if none may follow.
pub none-next : (order : BoM) (bytes : List ℕ) (count : ℕ) (last more_follow : Bool) → (more_follow ≡ false → (last ≡ true) × (length bytes - 2 * count < 2)) → (more : List ℕ) → MayFollow last more → more_follow ≡ false → units_in order (drop (2 * count) bytes ++ more) ≡ []
none-next order bytes count last more_follow none more may e =
    let given = none e in
    let empty : more ≡ [] = may given.0 in
    ap (λ xs. units_in order (drop (2 * count) bytes ++ xs)) empty ∙ ap (units_in order) (append-nil (drop (2 * count) bytes)) ∙ units_in-short order (drop (2 * count) bytes) (omega (arith, length-drop (2 * count) bytes, given.1))

-- The units that were stored are the first ones of the bytes.
pub stored-units : (order : BoM) (bytes units : List ℕ) (count : ℕ) → 2 * count ≤ length bytes → take (length (take (2 * count) bytes) / 2) units ≡ units_in order (take (2 * count) bytes) → take count units ≡ take count (units_in order bytes)
stored-units order bytes units count within stored =
    let half : length (take (2 * count) bytes) / 2 ≡ count = omega (arith, length-take-le (2 * count) bytes within) in
    ap (λ n. take n units) (sym half) ∙ stored ∙ units_in-take order count bytes
