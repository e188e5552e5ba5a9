-- A needle without a NUL splits the units of a C string as it splits its contents, and the NUL stays at the end.
use Rattle.std.proofs.Common.{◌≡◌, ℕ, zero, suc, ◌+◌, ◌-◌, ◌<◌, ◌≤◌, List, [], ◌∷◌, ◌++◌, inl, inr, refl, sym, ◌∙◌, ap, subst, arith, length, length-append, length-drop, take, drop, append_assoc}
use Rattle.std.specs.Prelude.{slice_index, map}
use Rattle.std.specs.List.{All, take-map}
use Rattle.std.proofs.lemmas.Bool.{cases_lt}
use Rattle.std.proofs.lemmas.List.{drop-append-le, length-map, take-append-le, take_all, take_more}
use Rattle.std.proofs.lemmas.List.Elements.{All-cons, All-head, All-nil, All-tail}
use Rattle.std.proofs.Math.Seq.{take-append_seam}
use Rattle.wide_unit.specs.Nul.{HasNoNul, NoNulBefore, IsFirstNul}
use Rattle.wide_search.specs.Occurrences.{OccursAt, IsFirstAt}
use Rattle.wide_search.specs.Substrings.{AreSubstrings, joined_with}
use Rattle.wide_search.specs.Cut.{substrings, substrings-are, substrings-whole}
use Rattle.wide_search.specs.Laws.Cuts.{some-substrings}
use Rattle.wide_search.specs.Laws.Occurrences.{substrings-unique}
use Rattle.wide_ustr.proofs.BothEnds.{occurs-within, occurs-further}
use Rattle.wide_ucstr.specs.CString.{IsCString, contents}
use Rattle.wide_ucstr.proofs.Cuts.{no_nul_in_prefix}

-- Units without a NUL.
none_first : (u : ℕ) (us : List ℕ) → HasNoNul (u ∷ us) → ¬ (u ≡ 0)
none_first u us none nul = none 0 (omega arith) (omega arith, nul)

none_after : (u : ℕ) (us : List ℕ) → HasNoNul (u ∷ us) → HasNoNul us
none_after u us none i lt nul = none (suc i) (omega (arith, lt)) (omega (arith, lt), nul.1)

none_on : (u : ℕ) (us : List ℕ) → ¬ (u ≡ 0) → HasNoNul us → HasNoNul (u ∷ us)
none_on u us some none zero lt nul = some nul.1
none_on u us some none (suc k) lt nul = none k (omega (arith, lt)) (omega (arith, nul.0), nul.1)

pub none-append : (us vs : List ℕ) → HasNoNul us → HasNoNul vs → HasNoNul (us ++ vs)
none-append [] vs a b = b
none-append (u ∷ us) vs a b = none_on u (us ++ vs) (none_first u us a) (none-append us vs (none_after u us a) b)

none-take : (n : ℕ) (us : List ℕ) → HasNoNul us → HasNoNul (take n us)
none-take zero us none = λ i lt nul. absurd (omega (arith, lt))
none-take (suc n) [] none = none
none-take (suc n) (u ∷ us) none = none_on u (take n us) (none_first u us none) (none-take n us (none_after u us none))

none-drop : (n : ℕ) (us : List ℕ) → HasNoNul us → HasNoNul (drop n us)
none-drop zero us none = none
none-drop (suc n) [] none = none
none-drop (suc n) (u ∷ us) none = none-drop n us (none_after u us none)

last_is_nul : (us : List ℕ) → slice_index (us ++ 0 ∷ []) (length us) ≡ 0
last_is_nul [] = refl
last_is_nul (u ∷ us) = last_is_nul us

not_none : (us : List ℕ) → HasNoNul (us ++ 0 ∷ []) → ⊥
not_none us none = none (length us) (omega (arith, length-append us (0 ∷ []))) (omega (arith, length-append us (0 ∷ [])), last_is_nul us)

-- The substrings, with a NUL after the last one.
abbrev pub with_nul : List (List ℕ) → List (List ℕ)
with_nul [] = []
with_nul (last ∷ []) = (last ++ 0 ∷ []) ∷ []
with_nul (part ∷ next ∷ more) = part ∷ with_nul (next ∷ more)

module _ (needle : List ℕ) (some : 0 < length needle) (none : HasNoNul needle) where
  -- The needle does not end with the NUL.
  inside : (us : List ℕ) (at : ℕ) → OccursAt needle (us ++ 0 ∷ []) at → at + length needle ≤ length us
  inside us at occurs = elim (cases_lt (length us) (at + length needle)) [
    | inl beyond ↦
        (let long : length (us ++ 0 ∷ []) ≡ length us + 1 = length-append us (0 ∷ []) in
        let rest : drop at (us ++ 0 ∷ []) ≡ drop at us ++ 0 ∷ [] = drop-append-le at us (0 ∷ []) (omega (arith, occurs.within, long, some)) in
        let all : take (length needle) (drop at us ++ 0 ∷ []) ≡ drop at us ++ 0 ∷ [] = take_all (length needle) (drop at us ++ 0 ∷ []) (omega (arith, beyond, length-append (drop at us) (0 ∷ []), length-drop at us)) in
        absurd (not_none (drop at us) (subst HasNoNul (sym (sym all ∙ ap (take (length needle)) (sym rest) ∙ occurs.same)) none)))
    | inr within ↦ omega (arith, within)
  ]

  occurs-before : (us : List ℕ) (at : ℕ) → OccursAt needle (us ++ 0 ∷ []) at → OccursAt needle us at
  occurs-before us at occurs = occurs-within needle (us ++ 0 ∷ []) us (0 ∷ []) at refl (inside us at occurs) occurs

  are-cons : (us part : List ℕ) (parts : List (List ℕ)) → IsFirstAt needle us (length part) → part ≡ take (length part) us → AreSubstrings needle (drop (length part + length needle) us) parts → AreSubstrings needle us (part ∷ parts)
  are-cons us part [] first is are = absurd are
  are-cons us part (next ∷ more) first is are = (first, is, are)

  are-ended : (us : List ℕ) (parts : List (List ℕ)) → AreSubstrings needle us parts → AreSubstrings needle (us ++ 0 ∷ []) (with_nul parts)
  are-ended us [] are = absurd are
  are-ended us (last ∷ []) are = (ap (λ xs. xs ++ 0 ∷ []) are.0, λ at occurs. are.1 at (occurs-before us at occurs))
  are-ended us (part ∷ next ∷ more) are =
      let k = length part + length needle in
      let first : IsFirstAt needle (us ++ 0 ∷ []) (length part) = record {
        here = occurs-further needle (us ++ 0 ∷ []) us (0 ∷ []) (length part) refl are.0.here;
        before = λ earlier below occurs. are.0.before earlier below (occurs-before us earlier occurs);
      } in
      let front : part ≡ take (length part) (us ++ 0 ∷ []) = are.1 ∙ sym (take-append-le (length part) us (0 ∷ []) (omega (arith, are.0.here.within))) in
      let beyond : drop k us ++ 0 ∷ [] ≡ drop k (us ++ 0 ∷ []) = sym (drop-append-le k us (0 ∷ []) (omega (arith, are.0.here.within))) in
      are-cons (us ++ 0 ∷ []) part (with_nul (next ∷ more)) first front (subst (λ vs. AreSubstrings needle vs (with_nul (next ∷ more))) beyond (are-ended (drop k us) (next ∷ more) are.2))

  none-parts : (us : List ℕ) (parts : List (List ℕ)) → HasNoNul us → AreSubstrings needle us parts → All HasNoNul parts
  none-parts us [] none_us are = absurd are
  none-parts us (last ∷ []) none_us are = All-cons HasNoNul last [] (subst HasNoNul (sym are.0) none_us) (All-nil HasNoNul)
  none-parts us (part ∷ next ∷ more) none_us are =
      All-cons HasNoNul part (next ∷ more) (subst HasNoNul (sym are.1) (none-take (length part) us none_us)) (none-parts (drop (length part + length needle) us) (next ∷ more) (none-drop (length part + length needle) us none_us) are.2)

-- The NUL follows the last substring.
pub substrings-ended : (needle us : List ℕ) → HasNoNul needle → substrings needle (us ++ 0 ∷ []) ≡ with_nul (substrings needle us)
substrings-ended [] us none = substrings-whole (us ++ 0 ∷ []) ∙ sym (ap with_nul (substrings-whole us))
substrings-ended (p ∷ needle) us none =
    let sought = p ∷ needle in
    substrings-unique sought (substrings sought (us ++ 0 ∷ [])) (with_nul (substrings sought us)) (us ++ 0 ∷ []) (substrings-are sought (us ++ 0 ∷ []) (omega arith)) (are-ended sought (omega arith) none us (substrings sought us) (substrings-are sought us (omega arith)))

-- No substring of units without a NUL has one.
pub substrings-none : (needle us : List ℕ) → HasNoNul needle → HasNoNul us → All HasNoNul (substrings needle us)
substrings-none [] us none none_us = subst (All HasNoNul) (sym (substrings-whole us)) (All-cons HasNoNul us [] none_us (All-nil HasNoNul))
substrings-none (p ∷ needle) us none none_us =
    let sought = p ∷ needle in
    none-parts sought (omega arith) none us (substrings sought us) none_us (substrings-are sought us (omega arith))

module _ (with : List ℕ) where
  next-joined : (part : List ℕ) (parts : List (List ℕ)) → 0 < length parts → joined_with with (part ∷ parts) ≡ part ++ (with ++ joined_with with parts)
  next-joined part [] some = absurd (omega (arith, some))
  next-joined part (next ∷ more) some = refl

  pub some_ended : (part : List ℕ) (parts : List (List ℕ)) → 0 < length (with_nul (part ∷ parts))
  some_ended part [] = omega arith
  some_ended part (next ∷ more) = omega arith

  pub joined-ended : (parts : List (List ℕ)) → 0 < length parts → joined_with with (with_nul parts) ≡ joined_with with parts ++ 0 ∷ []
  joined-ended [] some = absurd (omega (arith, some))
  joined-ended (last ∷ []) some = refl
  joined-ended (part ∷ next ∷ more) some =
      let joined = joined_with with (next ∷ more) in
      next-joined part (with_nul (next ∷ more)) (some_ended next more) ∙ ap (λ us. part ++ (with ++ us)) (joined-ended (next ∷ more) (omega arith))
      ∙ ap (λ us. part ++ us) (sym (append_assoc with joined (0 ∷ []))) ∙ sym (append_assoc part (with ++ joined) (0 ∷ []))

  pub joined-none : (parts : List (List ℕ)) → HasNoNul with → All HasNoNul parts → HasNoNul (joined_with with parts)
  joined-none [] none all = λ i lt nul. absurd (omega (arith, lt))
  joined-none (last ∷ []) none all = All-head HasNoNul last [] all
  joined-none (part ∷ next ∷ more) none all =
      none-append part (with ++ joined_with with (next ∷ more)) (All-head HasNoNul part (next ∷ more) all)
      (none-append with (joined_with with (next ∷ more)) none (joined-none (next ∷ more) none (All-tail HasNoNul part (next ∷ more) all)))

-- Units without a NUL, and a NUL after them, are a C string.
none_before : (us : List ℕ) → HasNoNul us → NoNulBefore (us ++ 0 ∷ []) (length us)
none_before [] none earlier lt nul = absurd (omega (arith, lt))
none_before (u ∷ us) none zero lt nul = none_first u us none nul.1
none_before (u ∷ us) none (suc k) lt nul = none_before us (none_after u us none) k (omega (arith, lt)) (omega (arith, nul.0), nul.1)

pub c_string-ended : (us : List ℕ) → HasNoNul us → IsCString (us ++ 0 ∷ [])
c_string-ended us none =
    let long : length (us ++ 0 ∷ []) ≡ length us + 1 = length-append us (0 ∷ []) in
    subst (IsFirstNul (us ++ 0 ∷ [])) (omega (arith, long)) (record {
      at = (omega (arith, long), last_is_nul us);
      before = none_before us none;
    })

-- What is made of the parts between a needle in a C string, if it is what is made of those of its contents, and a NUL.
module _ {X : Type 0} (number : X → ℕ) where
  pub contents-ended : (us : List ℕ) (xs : List X) → map number xs ≡ us ++ 0 ∷ [] → map number (contents xs) ≡ us
  contents-ended us xs ended =
      let before : length xs - 1 ≡ length us = omega (arith, length-map xs number, ap length ended, length-append us (0 ∷ [])) in
      sym (take-map number (length xs - 1) xs) ∙ ap (take (length xs - 1)) ended ∙ ap (λ n. take n (us ++ 0 ∷ [])) before ∙ take-append_seam us (0 ∷ [])

  units-of : (xs : List X) → IsCString (map number xs) → map number xs ≡ map number (contents xs) ++ 0 ∷ []
  units-of xs is =
      let us = map number xs in
      let n = length us - 1 in
      sym (take_all (n + 1) us (omega (arith, is.at.0))) ∙ take_more us n 0 is.at.0 ∙ ap (λ u. take n us ++ u ∷ []) is.at.1
      ∙ ap (λ vs. vs ++ 0 ∷ []) (take-map number n xs ∙ ap (λ k. map number (take (k - 1) xs)) (length-map xs number))

  pub contents-none : (xs : List X) → IsCString (map number xs) → HasNoNul (map number (contents xs))
  contents-none xs is =
      let us = map number xs in
      subst HasNoNul (take-map number (length us - 1) xs ∙ ap (λ k. map number (take (k - 1) xs)) (length-map xs number)) (no_nul_in_prefix us (length us - 1) is.before)

  -- The units between the needle in the contents.
  abbrev parts : List ℕ → List X → List (List ℕ)
  parts needle old = substrings needle (map number (contents old))

  pub record EndsAlike (made : List (List ℕ) → List ℕ) (needle : List ℕ) (old : List X) : Type 0 where
    pub ended : made (with_nul (parts needle old)) ≡ made (parts needle old) ++ 0 ∷ []
    pub none : HasNoNul (made (parts needle old))

  module _ (made : List (List ℕ) → List ℕ) (needle : List ℕ) (old new : List X) (none : HasNoNul needle) (is : IsCString (map number old)) (alike : EndsAlike made needle old) (units : map number new ≡ made (substrings needle (map number old))) where
    made-ended : map number new ≡ made (parts needle old) ++ 0 ∷ []
    made-ended = units ∙ ap (λ us. made (substrings needle us)) (units-of old is) ∙ ap made (substrings-ended needle (map number (contents old)) none) ∙ alike.ended

    pub made-c_string : IsCString (map number new)
    made-c_string = subst IsCString (sym made-ended) (c_string-ended (made (parts needle old)) alike.none)

    pub made-contents : map number (contents new) ≡ made (parts needle old)
    made-contents = contents-ended (made (parts needle old)) new made-ended

  -- Parts that are joined with units without a NUL.
  pub joined-alike : (with needle : List ℕ) (old : List X) → HasNoNul with → HasNoNul needle → IsCString (map number old) → EndsAlike (joined_with with) needle old
  joined-alike with needle old none_with none is =
      let us = map number (contents old) in
      record {
        ended = joined-ended with (substrings needle us) (some-substrings needle us);
        none = joined-none with (substrings needle us) none_with (substrings-none needle us none (contents-none old is));
      }
