-- A needle occurs at the beginning of units if the prefix that both have in common is the needle.
use Rattle.std.proofs.Common.{◌≡◌, ℕ, ◌+◌, ◌<◌, ◌≤◌, List, [], ◌∷◌, ◌-◌, length, get_or, take, drop, inl, inr, sym, ap, ◌∙◌, subst, arith, length-take, length-drop, get_or-take, get_or-drop, take-take}
use Rattle.std.specs.Prelude.{◌↔◌, Some}
use Rattle.std.proofs.lemmas.Bool.{cases_lt}
use Rattle.std.proofs.lemmas.List.{take_all}
use Rattle.wide_unit.specs.CommonPrefix.{IsCommonPrefix}
use Rattle.wide_search.specs.Occurrences.{OccursAt}
use Rattle.wide_search.specs.Sought.{first_and, units_of_few}
use Rattle.wide_search.specs.declared.needle.Few.{Few}

module _ {A : Type 0} where
  pub occurs-if_shared : (needle us : List A) (n : ℕ) → IsCommonPrefix needle us n → OccursAt needle us 0 ↔ (n ≡ length needle)
  occurs-if_shared needle us n is = (
    λ occurs. elim (cases_lt n (length needle)) [
      | inl shorter ↦ (
          let e : take (n + 1) us ≡ take (n + 1) (take (length needle) us) = sym (take-take (n + 1) (length needle) us (omega (arith, shorter))) in
          absurd (is.longest shorter (omega (arith, shorter, occurs.within)) (sym (e ∙ ap (take (n + 1)) occurs.same))))
      | inr longer ↦ omega (arith, longer, is.left_within)
    ],
    λ e. record {
      within = omega (arith, e, is.right_within);
      same = ap (λ k. take k us) (sym e) ∙ sym is.same ∙ ap (λ k. take k needle) e ∙ take_all (length needle) needle (omega arith);
    },
  )

  -- A needle occurs at the beginning of units if the prefix that the needle and as many units share is the whole
  -- needle.
  pub occurs-if_begins : (needle us front : List A) (n : ℕ) → front ≡ take (length needle) us → IsCommonPrefix needle front n → OccursAt needle us 0 ↔ (n ≡ length needle)
  occurs-if_begins needle us front n cut is =
      let within : length front ≤ length us = subst (λ xs. length xs ≤ length us) (sym cut) (simp length-take (omega arith)) in
      let both = occurs-if_shared needle front n is in (
        λ occurs. both.0 (record {
          within = subst (λ xs. 0 + length needle ≤ length xs) (sym cut) (simp length-take (omega (arith, occurs.within)));
          same = ap (take (length needle)) cut ∙ take-take (length needle) (length needle) us (omega arith) ∙ occurs.same;
        }),
        λ e. let here = both.1 e in record {
          within = omega (arith, within, here.within);
          same = sym (take-take (length needle) (length needle) us (omega arith)) ∙ sym (ap (take (length needle)) cut) ∙ here.same;
        },
      )

-- Units with the numbers of a needle of two units are the needle.
module _ {X : Type 0} (number : X → ℕ) (same : (x y : X) → number x ≡ number y → x ≡ y) where
  begins-with : (us : List X) (first low x y : X) → 1 < length us → x ≡ get_or us 0 x → y ≡ get_or us 1 y → number x ≡ number first → number y ≡ number low → OccursAt (first ∷ low ∷ []) us 0
  begins-with [] first low x y long is is2 e e2 = absurd (omega (arith, long))
  begins-with (a ∷ []) first low x y long is is2 e e2 = absurd (omega (arith, long))
  begins-with (a ∷ b ∷ us) first low x y long is is2 e e2 =
      let one : a ≡ first = sym is ∙ same x first e in
      let other : b ≡ low = sym is2 ∙ same y low e2 in
      record {
        within = omega arith;
        same = ap (λ u. u ∷ b ∷ []) one ∙ ap (λ u. first ∷ u ∷ []) other;
      }

  pub occurs-if_two : (us : List X) (self : Few X) (low x y : X) → self.second ≡ Some low → x ≡ get_or us 0 x → 1 ≤ length (take (length us - 1) (drop 1 us)) → y ≡ get_or (take (length us - 1) (drop 1 us)) 0 y
      → number x ≡ number self.first → number y ≡ number low → OccursAt (units_of_few self) us 0 ↔ (2 ≡ length (units_of_few self))
  occurs-if_two us self low x y two is some is2 e e2 =
      let long : 1 < length us = omega (arith, some, length-take (length us - 1) (drop 1 us), length-drop 1 us) in
      let second : y ≡ get_or us 1 y = is2 ∙ get_or-take (length us - 1) (drop 1 us) 0 y (omega (arith, long)) ∙ get_or-drop 1 us 0 y in
      let units : first_and self.first self.second ≡ self.first ∷ low ∷ [] = ap (first_and self.first) two in
      let occurs = begins-with us self.first low x y long is second e e2 in (
        λ here. sym (ap length units),
        λ whole. subst (λ needle. OccursAt needle us 0) (sym units) occurs,
      )
