-- The loop of `retain`: what the closure returned for the elements that were passed, and the elements that were
-- retained.
use Rattle.std.proofs.Common.{◌≡◌, ℕ, ◌+◌, ◌<◌, ◌≤◌, List, [], ◌∷◌, ◌++◌, Bool, true, false, cond, length, take, drop, set, get_or, refl, ap, sym, ◌∙◌, subst, arith, append_assoc, length-set, append-nil}
use Rattle.std.proofs.lemmas.List.{take_more_set, take-set, drop_more, drop-set-lt}
use Rattle.std.proofs.lemmas.Grind.{common_steps, drop_more_same}
use Rattle.std.specs.Int.{from_bool}
use Rattle.std.specs.List.Retain.{IsFiltered}

pub at_most_one : (wanted : Bool) → from_bool wanted ≤ 1
at_most_one true = omega arith
at_most_one false = omega arith

-- An element is written after the first `kept`, and counted if it is wanted.
pub take_counted : {X : Type 0} (wanted : Bool) (xs : List X) (kept : ℕ) (x : X) → kept < length xs → take (kept + from_bool wanted) (set xs kept x) ≡ cond wanted (take kept xs ++ x ∷ []) (take kept xs)
take_counted true xs kept x within = take_more_set xs kept x within
take_counted false xs kept x within =
    let none : kept + 0 ≡ kept = omega arith in
    ap (λ n. take n (set xs kept x)) none ∙ take-set xs kept x

pub append_counted : {X : Type 0} (wanted : Bool) (xs ys : List X) (x : X) → cond wanted (xs ++ x ∷ []) xs ++ ys ≡ xs ++ cond wanted (x ∷ ys) ys
append_counted true xs ys x = append_assoc xs (x ∷ []) ys
append_counted false xs ys x = refl

module _ {X P : Type 0} (answers : P → X → Bool → P → Type 0) where
  pub no_elements : (p : P) → IsFiltered answers p [] []
  no_elements p = ([], p, refl, refl, refl)

  pub one_element : (p q : P) (x : X) (b : Bool) (xs ys : List X) → answers p x b q → IsFiltered answers q xs ys → IsFiltered answers p (x ∷ xs) (cond b (x ∷ ys) ys)
  one_element p q x true xs ys asked rest = (true ∷ rest.0, rest.1, omega (arith, rest.2), (q, asked, rest.3), ap (λ l. x ∷ l) rest.4)
  one_element p q x false xs ys asked rest = (false ∷ rest.0, rest.1, omega (arith, rest.2), (q, asked, rest.3), rest.4)

  -- The closure was `first` and is `now` after calls for the elements before `at`. The elements that it retained are
  -- the first `kept`.
  pub record Filtering (first now : P) (old new : List X) (kept at : ℕ) : Type 0 where
    pub finish : (ys : List X) → IsFiltered answers now (drop at old) ys → IsFiltered answers first old (take kept new ++ ys)
    pub below : kept ≤ at
    pub length_same : length new ≡ length old
    pub to_come : drop at new ≡ drop at old

  pub begins : (p : P) (old : List X) → Filtering p p old old 0 0
  begins p old = record { finish = λ ys h. h; below = omega arith; length_same = refl; to_come = refl }

  module _ (first now : P) (old new : List X) (kept at : ℕ) (so_far : Filtering first now old new kept at) where
    pub ends : length old ≤ at → IsFiltered answers first old (take kept new)
    ends past =
        let none : drop at old ≡ [] = grind (arith, common_steps) in
        let all : IsFiltered answers first old (take kept new ++ []) = so_far.finish [] (rw none (no_elements now)) in
        rw append-nil at all

    -- The element at `at` was written after those that the closure retained, and counted if the closure wanted it.
    module _ (later : P) (x : X) (wanted : Bool) (within : at < length old) (is : x ≡ get_or new at x) (asked : answers now x wanted later) where
      next_element : drop at old ≡ x ∷ drop (at + 1) old
      next_element =
          let inside : at < length new = omega (arith, within, so_far.length_same) in
          sym so_far.to_come ∙ drop_more new at x inside ∙ ap (λ y. y ∷ drop (at + 1) new) (sym is)
          ∙ ap (λ l. x ∷ l) (drop_more_same new old at so_far.to_come)

      retained : (ys : List X) → take (kept + from_bool wanted) (set new kept x) ++ ys ≡ take kept new ++ cond wanted (x ∷ ys) ys
      retained ys =
          ap (λ l. l ++ ys) (take_counted wanted new kept x (omega (arith, within, so_far.below, so_far.length_same)))
          ∙ append_counted wanted (take kept new) ys x

      pub asks : Filtering first later old (set new kept x) (kept + from_bool wanted) (at + 1)
      asks = record {
        finish = λ ys rest. let from_here : IsFiltered answers now (drop at old) (cond wanted (x ∷ ys) ys) = rw next_element (one_element now later x wanted (drop (at + 1) old) ys asked rest) in
            let all : IsFiltered answers first old (take kept new ++ cond wanted (x ∷ ys) ys) = so_far.finish (cond wanted (x ∷ ys) ys) from_here in
            subst (λ l. IsFiltered answers first old l) (sym (retained ys)) all;
        below = omega (arith, so_far.below, at_most_one wanted);
        length_same = length-set new kept x ∙ so_far.length_same;
        to_come = drop-set-lt (at + 1) new kept x (omega (arith, so_far.below)) ∙ drop_more_same new old at so_far.to_come;
      }
