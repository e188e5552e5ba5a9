-- The lossy text of units under a policy, prefix by prefix.
use Rattle.std.proofs.Common.{◌≡◌, ◌≢◌, ◌⊎◌, inl, inr, ℕ, ◌+◌, ◌%◌, ◌≤◌, Bool, true, false, List, [], ◌∷◌, ◌++◌, length, take, drop, refl, sym, ap, ◌∙◌, subst, arith, append_assoc, length-append, length-drop}
use Rattle.std.proofs.lemmas.List.{append-nil, map-append, take_all}
use Rattle.std.proofs.lemmas.List.Concat.{flat_map-append}
use Rattle.wide_forms.specs.EncodingForm.{Utf16}
use Rattle.wide_forms.specs.Segmentation.{Char, Fault}
use Rattle.wide_forms.specs.Items.{items, IsWellFormed}
use Rattle.wide_forms.specs.Lossy.{lossy_after, ends_in_fault, replacement}
use Rattle.wide_forms.specs.Laws.Policies.{lossy_after-append, lossy_after-chars, lossy_after-none_left, lossy_after-replaced, lossy_after-dropped, ends_in_fault-append}
use Rattle.wide_forms.specs.declared.policy.Policy.{Policy}
use Rattle.wide_forms.specs.Utf8.{utf8, utf8_bytes}
use Rattle.wide_forms.specs.Laws.Items.{IsCut, IsWellFormed-of_chars, items-append, items-nil}
use Rattle.wide_forms.specs.Laws.Ends.{items-append_left, items-prefix_low, items-prefix_high}
use Rattle.std.specs.Prelude.{map, nat_eq, Option, Some, None}
use Rattle.std.specs.List.{ends_with}
use Rattle.wide_bytes.specs.Bytes.{unit_in, units_in}
use Rattle.wide_utf16_to_utf8.specs.Encoded.{IsUnpaired}
use Rattle.wide_transcode.specs.Lossied.{IsText, Lossied, lossy_text, units_end_in_fault}
use Rattle.wide_bytes.specs.declared.order.BoM.{BoM}
use Rattle.wide_bytes.proofs.Pairs.{units_in-append, ends_in_zero}
use Rattle.wide_transcode.proofs.Zeros.{no-units, no-zero-units, snoc}

pub joined : (policy : Policy) (after_fault : Bool) (a b : List ℕ) → IsCut Utf16 a b → lossy_text policy after_fault (a ++ b) ≡ lossy_text policy after_fault a ++ lossy_text policy (units_end_in_fault after_fault a) b
joined policy after_fault a b cut =
    let left = items Utf16 a in
    let right = items Utf16 b in
    ap (λ is. utf8 (lossy_after policy after_fault is)) (items-append Utf16 a b cut) ∙ ap (λ cs. utf8 cs) (lossy_after-append policy after_fault left right)
    ∙ flat_map-append utf8_bytes (lossy_after policy after_fault left) (lossy_after policy (ends_in_fault after_fault left) right)

joined-flag : (after_fault : Bool) (a b : List ℕ) → IsCut Utf16 a b → units_end_in_fault after_fault (a ++ b) ≡ units_end_in_fault (units_end_in_fault after_fault a) b
joined-flag after_fault a b cut = ap (λ is. ends_in_fault after_fault is) (items-append Utf16 a b cut) ∙ ends_in_fault-append after_fault (items Utf16 a) (items Utf16 b)

-- An unpaired surrogate is a fault whatever follows it.
alone : (u : ℕ) (tail : List ℕ) → IsUnpaired u tail → items Utf16 (u ∷ []) ≡ Fault u ∷ []
alone u tail (inl low) = items-prefix_low Utf16 u [] low ∙ ap (λ is. Fault u ∷ is) (items-nil Utf16)
alone u tail (inr high) = items-prefix_high Utf16 u [] high.0 (λ l back e. absurd cc) ∙ ap (λ is. Fault u ∷ is) (items-nil Utf16)

-- ---- where the next units may be split off

pub last-of : (xs ys prefix : List ℕ) (h : ℕ) → ys ≢ [] → xs ++ ys ≡ prefix ++ h ∷ [] → (rest : List ℕ) × (ys ≡ rest ++ h ∷ [])
last-of [] ys prefix h some e = (prefix, e)
last-of (x ∷ xs) [] prefix h some e = absurd (some refl)
last-of (x ∷ []) (y ∷ ys) [] h some e = absurd cc
last-of (x ∷ z ∷ xs) (y ∷ ys) [] h some e = absurd cc
last-of (x ∷ xs) (y ∷ ys) (z ∷ prefix) h some e = let rest : xs ++ y ∷ ys ≡ prefix ++ h ∷ [] = cc in last-of xs (y ∷ ys) prefix h some rest

pub only : (u h : ℕ) (prefix : List ℕ) → u ∷ [] ≡ prefix ++ h ∷ [] → u ≡ h
only u h [] e = cc
only u h (x ∷ []) e = absurd cc
only u h (x ∷ y ∷ prefix) e = absurd cc

-- ---- a prefix of some bytes

empty-or : (xs : List ℕ) → (xs ≡ []) ⊎ (xs ≢ [])
empty-or [] = inl refl
empty-or (x ∷ xs) = inr (λ e. absurd cc)

pub cut-shorter : (a b c : List ℕ) → IsCut Utf16 a (b ++ c) → IsCut Utf16 a b
cut-shorter a b c cut prefix back h l e f = cut prefix (back ++ c) h l e (ap (λ us. us ++ c) f)

-- If no pair is split after the first list, and none after the second, none is split after both.
cut-both : (a b c : List ℕ) → IsCut Utf16 a (b ++ c) → IsCut Utf16 b c → IsCut Utf16 (a ++ b) c
cut-both a b c first then = elim (empty-or b) [
  | inl none ↦ subst (λ us. IsCut Utf16 us c) (sym (append-nil a) ∙ ap (λ us. a ++ us) (sym none)) (subst (λ us. IsCut Utf16 a (us ++ c)) none first)
  | inr some ↦ (λ prefix back h l e f pair. (let last = last-of a b prefix h some e in then last.0 back h l last.1 f pair))
]

nothing-read : (order : BoM) → units_in order [] ≡ []
unfolding units_in
nothing-read order = refl

pub nothing-text : (policy : Policy) (after_fault : Bool) (us : List ℕ) → us ≡ [] → lossy_text policy after_fault us ≡ []
nothing-text policy after_fault us e = ap (λ xs. utf8 (lossy_after policy after_fault xs)) (ap (λ xs. items Utf16 xs) e ∙ items-nil Utf16) ∙ ap (λ xs. utf8 xs) (lossy_after-none_left policy after_fault)

nothing-flag : (after_fault : Bool) (us : List ℕ) → us ≡ [] → units_end_in_fault after_fault us ≡ after_fault
nothing-flag after_fault us e = ap (λ xs. ends_in_fault after_fault xs) (ap (λ xs. items Utf16 xs) e ∙ items-nil Utf16)

pub lossied-none : (order : BoM) (policy : Policy) (after_fault : Bool) (rest text : List ℕ) → Lossied order policy [] rest after_fault text after_fault text
lossied-none order policy after_fault rest text = record {
  even = refl;
  text = sym (append-nil text) ∙ ap (λ t. text ++ t) (sym (nothing-text policy after_fault (units_in order []) (nothing-read order)));
  flag = sym (nothing-flag after_fault (units_in order []) (nothing-read order));
  cut = λ more prefix back h l e f pair. absurd (omega (arith, ap length (sym (nothing-read order) ∙ e), length-append prefix (h ∷ [])));
  no_zero = λ e. ap (λ us. ends_with nat_eq us (0 ∷ [])) (nothing-read order);
}

-- The last element of two lists is that of the second, if it is not empty.
ends-beyond : (a b : List ℕ) → b ≢ [] → ends_with nat_eq b (0 ∷ []) ≡ false → ends_with nat_eq (a ++ b) (0 ∷ []) ≡ false
ends-beyond a b some none = elim (snoc b) [
  | inl empty ↦ absurd (some empty)
  | inr last ↦ (
      ap (λ us. ends_with nat_eq us (0 ∷ [])) (ap (λ us. a ++ us) last.2 ∙ sym (append_assoc a last.0 (last.1 ∷ []))) ∙ ends_in_zero (a ++ last.0) last.1 ∙ sym (ends_in_zero last.0 last.1)
      ∙ ap (λ us. ends_with nat_eq us (0 ∷ [])) (sym last.2) ∙ none
      )
]

pub lossied-then : {order : BoM} {policy : Policy} {after_fault after_fault' after_fault'' : Bool} {a b rest s t u : List ℕ} → Lossied order policy a (b ++ rest) after_fault s after_fault' t → Lossied order policy b rest after_fault' t after_fault'' u → Lossied order policy (a ++ b) rest after_fault s after_fault'' u
lossied-then {order} {policy} {after_fault} {after_fault'} {after_fault''} {a} {b} {rest} {s} {t} {u} x y =
    let left = units_in order a in
    let right = units_in order b in
    let units : units_in order (a ++ b) ≡ left ++ right = units_in-append order a b x.even in
    let beyond : (more : List ℕ) → units_in order ((b ++ rest) ++ more) ≡ right ++ units_in order (rest ++ more) =
    (λ more. ap (λ bs. units_in order bs) (append_assoc b rest more) ∙ units_in-append order b (rest ++ more) y.even) in
    let first : (more : List ℕ) → IsCut Utf16 left (right ++ units_in order (rest ++ more)) = (λ more. subst (λ us. IsCut Utf16 left us) (beyond more) (x.cut more)) in
    let between : IsCut Utf16 left right = cut-shorter left right (units_in order (rest ++ [])) (first []) in
    record {
      even = omega (arith, length-append a b, x.even, y.even);
      text = y.text ∙ ap (λ bs. bs ++ lossy_text policy after_fault' right) x.text ∙ append_assoc s (lossy_text policy after_fault left) (lossy_text policy after_fault' right)
          ∙ ap (λ bs. s ++ bs) (ap (λ m. lossy_text policy after_fault left ++ lossy_text policy m right) x.flag ∙ sym (joined policy after_fault left right between) ∙ ap (λ us. lossy_text policy after_fault us) (sym units));
      flag = y.flag ∙ ap (λ m. units_end_in_fault m right) x.flag ∙ sym (joined-flag after_fault left right between) ∙ ap (λ us. units_end_in_fault after_fault us) (sym units);
      cut = λ more. subst (λ us. IsCut Utf16 us (units_in order (rest ++ more))) (sym units) (cut-both (units_in order a) (units_in order b) (units_in order (rest ++ more)) (first more) (y.cut more));
      no_zero = λ none. elim (empty-or (units_in order b)) [
        | inl empty ↦ (
            let no_b : b ≡ [] = no-units order b y.even empty in
            let same : units_in order (a ++ b) ≡ units_in order a = units ∙ ap (λ us. units_in order a ++ us) empty ∙ append-nil (units_in order a) in
            ap (λ us. ends_with nat_eq us (0 ∷ [])) same ∙ x.no_zero (ap (λ bs. bs ++ rest) no_b ∙ none)
            )
        | inr some ↦ ap (λ us. ends_with nat_eq us (0 ∷ [])) units ∙ ends-beyond (units_in order a) (units_in order b) some (y.no_zero none)
      ];
    }

-- The first unit of the bytes is a fault.
pub first-unit : (order : BoM) (a b u : ℕ) (bytes tail : List ℕ) → units_in order (a ∷ b ∷ bytes) ≡ u ∷ tail → (unit_in order a b ≡ u) × (units_in order bytes ≡ tail)
unfolding units_in
first-unit order a b u bytes tail e = (cc, cc)

-- The UTF-8 of what a policy yields for a fault.
abbrev pub fault_text : Option ℕ → List ℕ
fault_text None = []
fault_text (Some c) = utf8 (c ∷ [])

pub fault_text-text : (policy : Policy) (after_fault : Bool) (u : ℕ) (tail : List ℕ) → IsUnpaired u tail → lossy_text policy after_fault (u ∷ []) ≡ fault_text (replacement policy after_fault)
fault_text-text policy after_fault u tail unpaired = ap (λ is. utf8 (lossy_after policy after_fault is)) (alone u tail unpaired) ∙ by_replacement (replacement policy after_fault) refl
  where
    by_replacement : (r : Option ℕ) → replacement policy after_fault ≡ r → utf8 (lossy_after policy after_fault (Fault u ∷ [])) ≡ fault_text r
    by_replacement None e = ap (λ cs. utf8 cs) (lossy_after-dropped policy after_fault u [] e ∙ lossy_after-none_left policy true)
    by_replacement (Some c) e = ap (λ cs. utf8 cs) (lossy_after-replaced policy after_fault u c [] e ∙ ap (λ cs. c ∷ cs) (lossy_after-none_left policy true))

-- Bytes that do not end in two zeros have units that do not end in a zero unit.
pub block-no_zero : (order : BoM) (bytes : List ℕ) (r : ℕ) → r ≤ length bytes → length (take r bytes) % 2 ≡ 0 → (r ≡ length bytes → ends_with nat_eq bytes (0 ∷ 0 ∷ []) ≡ false) → drop r bytes ≡ [] → ends_with nat_eq (units_in order (take r bytes)) (0 ∷ []) ≡ false
block-no_zero order bytes r within even none left =
    let all_read : length bytes ≤ r = omega (arith, ap length left, length-drop r bytes) in
    subst (λ bs. ends_with nat_eq (units_in order bs) (0 ∷ []) ≡ false) (sym (take_all r bytes all_read)) (whole bytes (subst (λ bs. length bs % 2 ≡ 0) (take_all r bytes all_read) even) (none (omega arith)))
  where
    whole : (bs : List ℕ) → length bs % 2 ≡ 0 → ends_with nat_eq bs (0 ∷ 0 ∷ []) ≡ false → ends_with nat_eq (units_in order bs) (0 ∷ []) ≡ false
    whole [] e n = ap (λ us. ends_with nat_eq us (0 ∷ [])) (nothing-read order)
    whole (a ∷ []) e n = absurd (omega arith)
    whole (a ∷ b ∷ bs) e n = no-zero-units order [] (a ∷ b ∷ bs) refl e (omega arith) n

-- ---- text without faults

pub text-well : (us : List ℕ) (n : ℕ) → IsText us n → IsWellFormed Utf16 us
text-well us n text = IsWellFormed-of_chars Utf16 us text.0 text.1

pub text-then : (a b : List ℕ) (m n : ℕ) → IsText a m → IsText b n → IsText (a ++ b) (m + n)
text-then a b m n x y =
    (x.0 ++ y.0, items-append_left Utf16 a b (text-well a m x) ∙ ap (λ is. is ++ items Utf16 b) x.1 ∙ ap (λ is. map Char x.0 ++ is) y.1 ∙ sym (map-append Char x.0 y.0), omega (arith, x.2, y.2, length-append x.0 y.0))

-- After units without a fault, no fault was read last.
pub text-flag : (us : List ℕ) (n : ℕ) → IsText us n → false ≡ units_end_in_fault false us
text-flag us n text = sym (ap (λ is. ends_in_fault false is) text.1 ∙ by_chars text.0)
  where
    by_chars : (cs : List ℕ) → ends_in_fault false (map Char cs) ≡ false
    by_chars [] = refl
    by_chars (c ∷ cs) = by_chars cs

pub text-lossy : (policy : Policy) (us : List ℕ) (n : ℕ) (text : IsText us n) → lossy_text policy false us ≡ utf8 text.0
text-lossy policy us n text = ap (λ is. utf8 (lossy_after policy false is)) text.1 ∙ ap (λ cs. utf8 cs) (lossy_after-chars policy false text.0)
