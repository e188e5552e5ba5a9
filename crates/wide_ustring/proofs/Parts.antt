-- A slice of a list without its first element, or without its last one.
use Rattle.std.proofs.Common.{◌≡◌, ℕ, zero, suc, ◌+◌, ◌-◌, ◌<◌, ◌≤◌, min, List, [], ◌∷◌, ◌++◌, get_or, take, drop, slice_range, length, refl, sym, ap, ◌∙◌, arith, length-drop}
use Rattle.std.proofs.lemmas.List.{drop_more, take_more, get_or-drop}
use Rattle.std.proofs.lemmas.Grind.{common_steps}

module _ {X : Type 0} where
  pub part_first : (xs : List X) (prefix back : ℕ) (x : X) → prefix < back → prefix < length xs → x ≡ get_or xs prefix x → slice_range xs prefix back ≡ x ∷ slice_range xs (prefix + 1) back
  part_first xs prefix back x ordered within is =
      let count : back - prefix ≡ suc (back - (prefix + 1)) = omega arith in
      ap (take (back - prefix)) (drop_more xs prefix x within)
      ∙ ap (λ n. take n (get_or xs prefix x ∷ drop (prefix + 1) xs)) count
      ∙ ap (λ y. y ∷ take (back - (prefix + 1)) (drop (prefix + 1) xs)) (sym is)

  take_enough : (ys : List X) (n m : ℕ) → min n (length ys) ≡ min m (length ys) → take n ys ≡ take m ys
  take_enough [] zero zero e = refl
  take_enough [] zero (suc m) e = refl
  take_enough [] (suc n) zero e = refl
  take_enough [] (suc n) (suc m) e = refl
  take_enough (y ∷ ys) zero zero e = refl
  take_enough (y ∷ ys) zero (suc m) e = absurd (omega arith)
  take_enough (y ∷ ys) (suc n) zero e = absurd (omega arith)
  take_enough (y ∷ ys) (suc n) (suc m) e = ap (λ l. y ∷ l) (take_enough ys n m (omega arith))

  -- The slice ends at `back` or at the end of the list.
  pub part_last : (xs : List X) (prefix back end : ℕ) (x : X) → end ≡ min back (length xs) → prefix < end → x ≡ get_or xs (end - 1) x → slice_range xs prefix back ≡ slice_range xs prefix (end - 1) ++ x ∷ []
  part_last xs prefix back end x cut ordered is =
      let n : ℕ = end - 1 - prefix in
      let enough : take (back - prefix) (drop prefix xs) ≡ take (n + 1) (drop prefix xs) =
      take_enough (drop prefix xs) (back - prefix) (n + 1) (omega (arith, length-drop prefix xs)) in
      let more : take (n + 1) (drop prefix xs) ≡ take n (drop prefix xs) ++ get_or (drop prefix xs) n x ∷ [] = take_more (drop prefix xs) n x (omega (arith, length-drop prefix xs)) in
      let last : get_or (drop prefix xs) n x ≡ x = get_or-drop prefix xs n x ∙ ap (λ k. get_or xs k x) (omega arith) ∙ sym is in
      enough ∙ more ∙ ap (λ y. take n (drop prefix xs) ++ y ∷ []) last

  -- A slice that ends where it starts, or before, is empty.
  pub part_none : (xs : List X) (prefix back : ℕ) → min back (length xs) ≤ prefix → slice_range xs prefix back ≡ []
  part_none xs prefix back past = grind (arith, common_steps)
