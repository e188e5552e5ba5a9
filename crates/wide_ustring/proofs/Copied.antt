-- The one or two units of a character that are copied to a lower offset.
use Rattle.std.proofs.Common.{◌≡◌, ℕ, zero, suc, ◌+◌, ◌-◌, ◌<◌, ◌≤◌, List, [], ◌∷◌, ◌++◌, get_or, set, take, drop, length, sym, ap, ◌∙◌, arith, append_assoc, length-set, take-append-drop}
use Rattle.std.proofs.lemmas.List.{drop-drop, drop_more, set-set, set_split, take_more_set, drop-set-lt}
use Rattle.std.specs.List.{copy_within}

module _ {X : Type 0} (xs : List X) (from to onto : ℕ) where
  pub copied_in_place : onto ≡ from → xs ≡ copy_within xs from to onto
  copied_in_place e =
      let n : ℕ = to - from in
      sym
      (ap (λ k. take k xs ++ take n (drop from xs) ++ drop (k + n) xs) e
      ∙ append_assoc (take from xs) (take n (drop from xs)) (drop (from + n) xs)
      ∙ ap (λ l. take from xs ++ (take n (drop from xs) ++ l)) (sym (drop-drop n from xs))
      ∙ ap (λ l. take from xs ++ l) (take-append-drop n (drop from xs))
      ∙ take-append-drop from xs)

  pasted : (ys : List X) (n : ℕ) → to - from ≡ n → take n (drop from xs) ≡ ys → copy_within xs from to onto ≡ take onto xs ++ (ys ++ drop (onto + n) xs)
  pasted ys n long is =
      ap (λ k. take onto xs ++ take k (drop from xs) ++ drop (onto + k) xs) long
      ∙ ap (λ l. take onto xs ++ l ++ drop (onto + n) xs) is
      ∙ append_assoc (take onto xs) ys (drop (onto + n) xs)

  one_copied : (x y : X) → to ≡ from + 1 → onto < from → to ≤ length xs → y ≡ get_or xs (to - 1) y → set (set xs onto x) (onto + 0) y ≡ copy_within xs from to onto
  one_copied x y one down within last =
      let here : to - 1 ≡ from = omega arith in
      let taken : take 1 (drop from xs) ≡ y ∷ [] = ap (take 1) (drop_more xs from y (omega arith)) ∙ ap (λ z. z ∷ []) (sym (last ∙ ap (λ k. get_or xs k y) here)) in
      let same : onto + 0 ≡ onto = omega arith in
      let next : suc onto ≡ onto + 1 = omega arith in
      ap (λ k. set (set xs onto x) k y) same
      ∙ set-set xs onto x y
      ∙ set_split xs onto y (omega arith)
      ∙ ap (λ n. take onto xs ++ y ∷ drop n xs) next
      ∙ sym (pasted (y ∷ []) 1 (omega arith) taken)

  two_copied : (x y : X) → to ≡ from + 2 → onto < from → to ≤ length xs → x ≡ get_or xs from x → y ≡ get_or xs (to - 1) y → set (set xs onto x) (onto + 1) y ≡ copy_within xs from to onto
  two_copied x y two down within first last =
      let here : to - 1 ≡ from + 1 = omega arith in
      let more : drop from xs ≡ x ∷ drop (from + 1) xs = drop_more xs from x (omega arith) ∙ ap (λ z. z ∷ drop (from + 1) xs) (sym first) in
      let again : drop (from + 1) xs ≡ y ∷ drop (from + 1 + 1) xs = drop_more xs (from + 1) y (omega arith) ∙ ap (λ z. z ∷ drop (from + 1 + 1) xs) (sym (last ∙ ap (λ k. get_or xs k y) here)) in
      let taken : take 2 (drop from xs) ≡ x ∷ y ∷ [] = ap (take 2) more ∙ ap (λ l. x ∷ take 1 l) again in
      let next : suc (onto + 1) ≡ onto + 2 = omega arith in
      set_split (set xs onto x) (onto + 1) y (omega (arith, length-set xs onto x))
      ∙ ap (λ l. l ++ y ∷ drop (suc (onto + 1)) (set xs onto x)) (take_more_set xs onto x (omega arith))
      ∙ ap (λ n. (take onto xs ++ x ∷ []) ++ y ∷ drop n (set xs onto x)) next
      ∙ ap (λ l. (take onto xs ++ x ∷ []) ++ y ∷ l) (drop-set-lt (onto + 2) xs onto x (omega arith))
      ∙ append_assoc (take onto xs) (x ∷ []) (y ∷ drop (onto + 2) xs)
      ∙ sym (pasted (x ∷ y ∷ []) 2 (omega arith) taken)

  -- The first unit and the last one were written. They are the same one, or are beside each other.
  pub char_copied : (x y : X) (n : ℕ) → n ≤ 1 → to ≡ from + 1 + n → onto < from → to ≤ length xs → x ≡ get_or xs from x → y ≡ get_or xs (to - 1) y → set (set xs onto x) (onto + n) y ≡ copy_within xs from to onto
  char_copied x y zero few long down within first last = one_copied x y (omega arith) down within last
  char_copied x y (suc zero) few long down within first last = two_copied x y (omega arith) down within first last
  char_copied x y (suc (suc n)) few long down within first last = absurd (omega arith)
