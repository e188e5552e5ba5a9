-- The lossy text of UTF-32 under a policy, unit by unit.
use Rattle.std.proofs.Common.{◌≡◌, ℕ, ◌+◌, ◌≤◌, ◌<◌, Bool, true, false, cond, not, ◌||◌, eqb, inl, inr, List, [], ◌∷◌, ◌++◌, append_assoc, length, get_or, drop, refl, sym, ap, ◌∙◌, arith}
use Rattle.std.specs.Char.{IsScalar}
use Rattle.std.specs.Prelude.{is_some}
use Rattle.std.proofs.lemmas.Bool.{cases_Bool}
use Rattle.std.proofs.lemmas.Bool.Decides.{eqb_tells}
use Rattle.std.proofs.lemmas.List.{append-nil, drop_all, drop_more}
use Rattle.wide_forms.specs.EncodingForm.{Utf32, encode}
use Rattle.wide_forms.specs.Items.{items}
use Rattle.wide_forms.specs.Lossy.{ends_in_fault, lossy_after, replacement}
use Rattle.wide_forms.specs.Searches.{is_no_scalar}
use Rattle.wide_forms.specs.Laws.Items.{items-nil}
use Rattle.wide_forms.specs.Laws.Policies.{lossy_after-char, lossy_after-fault, lossy_after-none_left}
use Rattle.wide_forms.specs.Laws.Utf32.{encode32, items32-char, items32-fault}
use Rattle.wide_forms.specs.declared.policy.Policy.{Policy}
use Rattle.wide_repair.specs.Repaired.{repaired_scalar}

-- A unit that is no scalar value is a fault, and any other is a character.
no_scalar : (u : ℕ) → is_no_scalar u ≡ true → ¬ (IsScalar u)
no_scalar u is scalar = grind (arith, is, scalar)

scalar : (u : ℕ) → is_no_scalar u ≡ false → IsScalar u
scalar u isnt = grind (arith, isnt)

same : (u : ℕ) → eqb u u ≡ true
same u = elim (eqb_tells u u) [
  | inl is ↦ is.0
  | inr other ↦ absurd (other.1 refl)
]

other : (u : ℕ) → is_no_scalar u ≡ true → eqb 0xFFFD u ≡ false
other u is = elim (eqb_tells 0xFFFD u) [
  | inl e ↦ absurd (no_scalar u is (grind (arith, e.1)))
  | inr isnt ↦ isnt.0
]

-- What is written for a unit.
abbrev written : Policy → Bool → ℕ → List ℕ
written policy after u = cond (not (not (eqb (repaired_scalar u) u)) || is_some (replacement policy after)) (repaired_scalar u ∷ []) []

module _ (policy : Policy) (after : Bool) (u : ℕ) (us : List ℕ) where
  unit-written : lossy_after policy after (items Utf32 (u ∷ us)) ≡ written policy after u ++ lossy_after policy (not (eqb (repaired_scalar u) u)) (items Utf32 us)
  unit-written = elim (cases_Bool (is_no_scalar u)) [
    | inl is ↦ rw (is, other u is) (ap (lossy_after policy after) (items32-fault u us (no_scalar u is)) ∙ lossy_after-fault policy after u (items Utf32 us))
    | inr isnt ↦ rw (isnt, same u) (ap (lossy_after policy after) (items32-char u us (scalar u isnt)) ∙ lossy_after-char policy after u (items Utf32 us))
  ]

  unit-state : ends_in_fault after (items Utf32 (u ∷ us)) ≡ ends_in_fault (not (eqb (repaired_scalar u) u)) (items Utf32 us)
  unit-state = elim (cases_Bool (is_no_scalar u)) [
    | inl is ↦ rw (is, other u is) (ap (ends_in_fault after) (items32-fault u us (no_scalar u is)))
    | inr isnt ↦ rw (isnt, same u) (ap (ends_in_fault after) (items32-char u us (scalar u isnt)))
  ]

-- Whether a fault was read last, after one more unit.
pub state-passed : (policy : Policy) (after was : Bool) (us : List ℕ) (k : ℕ) → k < length us → ends_in_fault after (items Utf32 us) ≡ ends_in_fault was (items Utf32 (drop k us))
    → ends_in_fault after (items Utf32 us) ≡ ends_in_fault (not (eqb (repaired_scalar (get_or us k 0)) (get_or us k 0))) (items Utf32 (drop (k + 1) us))
state-passed policy after was us k within so_far = so_far ∙ ap (λ us. ends_in_fault was (items Utf32 us)) (drop_more us k 0 within) ∙ unit-state policy was (get_or us k 0) (drop (k + 1) us)

-- What was written, after one more unit.
pub unit-passed : (policy : Policy) (after was : Bool) (us before now : List ℕ) (k : ℕ) → k < length us → lossy_after policy after (items Utf32 us) ≡ before ++ lossy_after policy was (items Utf32 (drop k us))
    → now ≡ before ++ written policy was (get_or us k 0) → lossy_after policy after (items Utf32 us) ≡ now ++ lossy_after policy (not (eqb (repaired_scalar (get_or us k 0)) (get_or us k 0))) (items Utf32 (drop (k + 1) us))
unit-passed policy after was us before now k within so_far put =
    let u = get_or us k 0 in
    let rest = lossy_after policy (not (eqb (repaired_scalar u) u)) (items Utf32 (drop (k + 1) us)) in
    so_far ∙ ap (λ us. before ++ lossy_after policy was (items Utf32 us)) (drop_more us k 0 within) ∙ ap (λ cs. before ++ cs) (unit-written policy was u (drop (k + 1) us))
    ∙ sym (append_assoc before (written policy was u) rest) ∙ ap (λ cs. cs ++ rest) (sym put)

-- Whether a fault was read last, after all units.
pub all-states : (after was : Bool) (us : List ℕ) (k : ℕ) → length us ≤ k → ends_in_fault after (items Utf32 us) ≡ ends_in_fault was (items Utf32 (drop k us)) → was ≡ ends_in_fault after (items Utf32 us)
all-states after was us k all so_far = sym (so_far ∙ ap (λ us. ends_in_fault was (items Utf32 us)) (drop_all k us all) ∙ ap (ends_in_fault was) (items-nil Utf32))

-- What was written, after all units.
pub all-passed : (policy : Policy) (after was : Bool) (us now : List ℕ) (k : ℕ) → length us ≤ k → lossy_after policy after (items Utf32 us) ≡ now ++ lossy_after policy was (items Utf32 (drop k us)) → now ≡ encode Utf32 (lossy_after policy after (items Utf32 us))
all-passed policy after was us now k all so_far =
    let none : lossy_after policy was (items Utf32 (drop k us)) ≡ [] = ap (λ us. lossy_after policy was (items Utf32 us)) (drop_all k us all) ∙ ap (lossy_after policy was) (items-nil Utf32) ∙ lossy_after-none_left policy was in
    sym (encode32 (lossy_after policy after (items Utf32 us)) ∙ so_far ∙ ap (λ cs. now ++ cs) none ∙ append-nil now)
