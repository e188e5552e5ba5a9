-- Lossy text of units, split after some characters and the fault after them.
use Rattle.std.proofs.Common.{◌≡◌, inl, inr, ℕ, ◌≤◌, List, [], ◌∷◌, ◌++◌, Bool, true, false, length, map, take, drop, refl, sym, ap, ◌∙◌, subst, arith, length-append}
use Rattle.std.proofs.lemmas.Bool.{cases_lt}
use Rattle.std.proofs.lemmas.List.{length-take-le, take-append-drop}
use Rattle.wide_forms.specs.EncodingForm.{EncodingForm, code_units, encode}
use Rattle.wide_forms.specs.Items.{IsFirstFault, IsWellFormed, chars, items}
use Rattle.wide_forms.specs.Lossy.{ends_in_fault, lossy_after}
use Rattle.wide_forms.specs.Segmentation.{Char, Fault, units_of}
use Rattle.wide_forms.specs.Laws.Chains.{Chain}
use Rattle.wide_forms.specs.Laws.Ends.{items-append_left}
use Rattle.wide_forms.specs.Laws.Forms.{some_units}
use Rattle.wide_forms.specs.Laws.Items.{chars-of_well_formed, encode-of_items, items-chain, items-of_chain, units_of-items}
use Rattle.wide_forms.specs.Laws.Policies.{lossy_after-append, lossy_after-chars}
use Rattle.wide_forms.specs.declared.policy.Policy.{Policy}
use Rattle.wide_unit.proofs.Faults.{first_fault-below, first_fault-first, first_fault-prefix}
use Rattle.wide_conversions.proofs.LossyItems.{ends-characters}

module _ (form : EncodingForm) where
  -- If characters were read last, no fault was read last.
  ends-units : (after : Bool) (cs prefix : List ℕ) → encode form cs ≡ prefix → (length prefix ≡ 0 → ends_in_fault after (map Char cs) ≡ after) × (1 ≤ length prefix → ends_in_fault after (map Char cs) ≡ false)
  ends-units after [] prefix is = (λ none. refl, λ some. absurd (omega (arith, some, ap length is)))
  ends-units after (c ∷ cs) prefix is = (λ none. absurd (omega (arith, none, ap length is, length-append (code_units form c) (encode form cs), some_units form c)), λ some. ends-characters cs)

  -- From the first fault on, the items are the fault and the items of the units after it.
  beyond-fault : (us : List ℕ) (n item u : ℕ) → IsFirstFault form us n item u → items form (drop n us) ≡ Fault u ∷ items form (drop 1 (drop n us))
  beyond-fault us n item u fault =
      let (rest, first) = first_fault-first form us n item u fault in
      let chain : Chain form (Fault u ∷ rest) = subst (Chain form) first (items-chain form (drop n us)) in
      let units : drop n us ≡ u ∷ units_of form rest = sym (units_of-items form (drop n us)) ∙ ap (units_of form) first in
      first ∙ ap (λ is. Fault u ∷ is) (sym (items-of_chain form rest chain.2) ∙ ap (items form) (sym (ap (drop 1) units)))

  module _ (policy : Policy) where
    pub lossy-fault : (us : List ℕ) (n item u : ℕ) (after between : Bool) → IsFirstFault form us n item u → (n ≡ 0 → between ≡ after) → (1 ≤ n → between ≡ false)
        → lossy_after policy after (items form us) ≡ chars form (take n us) ++ (lossy_after policy between (Fault u ∷ []) ++ lossy_after policy true (items form (drop 1 (drop n us))))
    lossy-fault us n item u after between fault same other =
        let prefix = take n us in
        let cs = chars form prefix in
        let well = first_fault-prefix form us n item u fault in
        let is : items form prefix ≡ map Char cs = chars-of_well_formed form prefix well in
        let rest = items form (drop 1 (drop n us)) in
        let long : length prefix ≡ n = length-take-le n us (omega (arith, first_fault-below form us n item u fault)) in
        let ends = ends-units after cs prefix (encode-of_items form cs prefix is) in
        let last : ends_in_fault after (map Char cs) ≡ between = elim (cases_lt 0 n) [
          | inl some ↦ ends.1 (omega (arith, some, long)) ∙ sym (other some)
          | inr none ↦ ends.0 (omega (arith, none, long)) ∙ sym (same (omega arith))
        ] in
        let parts : items form us ≡ map Char cs ++ Fault u ∷ rest =
        ap (items form) (sym (take-append-drop n us)) ∙ items-append_left form prefix (drop n us) well ∙ ap (λ js. js ++ items form (drop n us)) is ∙ ap (λ js. map Char cs ++ js) (beyond-fault us n item u fault)
        in
        ap (lossy_after policy after) parts ∙ lossy_after-append policy after (map Char cs) (Fault u ∷ rest) ∙ ap (λ ds. ds ++ lossy_after policy (ends_in_fault after (map Char cs)) (Fault u ∷ rest)) (lossy_after-chars policy after cs)
        ∙ ap (λ f. cs ++ lossy_after policy f (Fault u ∷ rest)) last ∙ ap (λ ds. cs ++ ds) (lossy_after-append policy between (Fault u ∷ []) rest)

    -- Lossy text of well-formed units is their characters.
    pub lossy-valid : (us : List ℕ) (after : Bool) → IsWellFormed form us → lossy_after policy after (items form us) ≡ chars form us
    lossy-valid us after well = ap (lossy_after policy after) (chars-of_well_formed form us well) ∙ lossy_after-chars policy after (chars form us)
