-- A list repeated several times.
use Rattle.std.proofs.Common.{◌≡◌, ℕ, zero, suc, ◌+◌, ◌*◌, List, [], ◌∷◌, ◌++◌, length, refl, sym, ap, ◌∙◌, arith, append_assoc, append-nil}
use Rattle.std.specs.List.{repeat}

module _ {X : Type 0} where
  turned : (n : ℕ) (xs : List X) → repeat n xs ++ xs ≡ xs ++ repeat n xs
  turned zero xs = sym (append-nil xs)
  turned (suc n) xs = append_assoc xs (repeat n xs) xs ∙ ap (λ l. xs ++ l) (turned n xs)

  pub repeat_more : (n : ℕ) (xs : List X) → repeat n xs ++ xs ≡ repeat (n + 1) xs
  repeat_more n xs = let next : suc n ≡ n + 1 = omega arith in turned n xs ∙ ap (λ k. repeat k xs) next

  pub repeat_empty : (n : ℕ) (xs : List X) → length xs * n ≡ 0 → repeat n xs ≡ []
  repeat_empty zero [] e = refl
  repeat_empty (suc n) [] e = repeat_empty n [] (omega arith)
  repeat_empty zero (x ∷ xs) e = refl
  repeat_empty (suc n) (x ∷ xs) e = absurd (omega arith)
