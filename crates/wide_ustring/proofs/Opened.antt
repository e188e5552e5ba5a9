-- Units written into the gap that was opened in a list.
use Rattle.std.proofs.Common.{◌≡◌, ℕ, suc, ◌+◌, ◌<◌, List, [], ◌∷◌, ◌++◌, map, length, take, drop, set, ap, sym, ◌∙◌, arith, append_assoc, length-set}
use Rattle.std.specs.List.{splice}
use Rattle.std.proofs.lemmas.List.{set_split, take_more_set, drop-set-lt}
use Rattle.wide_forms.specs.Laws.Splices.{map-splice}

module _ {X : Type 0} where
  one_put : (old v : List X) (from to : ℕ) (x : X) → take from v ≡ take from old → drop (from + 1) v ≡ drop to old → from < length v → set v from x ≡ splice old from to (x ∷ [])
  one_put old v from to x prefix rest lt =
      let next : suc from ≡ from + 1 = omega arith in
      set_split v from x lt
      ∙ ap (λ l. l ++ x ∷ drop (suc from) v) prefix
      ∙ ap (λ n. take from old ++ x ∷ drop n v) next
      ∙ ap (λ l. take from old ++ x ∷ l) rest

  two_put : (old v : List X) (from to : ℕ) (x y : X) → take from v ≡ take from old → drop (from + 2) v ≡ drop to old → from + 1 < length v → set (set v from x) (from + 1) y ≡ splice old from to (x ∷ y ∷ [])
  two_put old v from to x y prefix rest lt =
      let next : suc (from + 1) ≡ from + 2 = omega arith in
      let within : from + 1 < length (set v from x) = rw length-set lt in
      set_split (set v from x) (from + 1) y within
      ∙ ap (λ l. l ++ y ∷ drop (suc (from + 1)) (set v from x)) (take_more_set v from x (omega (arith, lt)))
      ∙ ap (λ n. (take from v ++ x ∷ []) ++ y ∷ drop n (set v from x)) next
      ∙ ap (λ l. (take from v ++ x ∷ []) ++ y ∷ l) (drop-set-lt (from + 2) v from x (omega arith))
      ∙ append_assoc (take from v) (x ∷ []) (y ∷ drop (from + 2) v)
      ∙ ap (λ l. l ++ x ∷ y ∷ drop (from + 2) v) prefix
      ∙ ap (λ l. take from old ++ x ∷ y ∷ l) rest

module _ {X Y : Type 0} (f : X → Y) where
  pub map-one_put : (old v : List X) (from to : ℕ) (x : X) → take from v ≡ take from old → drop (from + 1) v ≡ drop to old → from < length v → map f (set v from x) ≡ splice (map f old) from to (f x ∷ [])
  map-one_put old v from to x prefix rest lt = ap (map f) (one_put old v from to x prefix rest lt) ∙ sym (map-splice f old from to (x ∷ []))

  pub map-two_put : (old v : List X) (from to : ℕ) (x y : X) → take from v ≡ take from old → drop (from + 2) v ≡ drop to old → from + 1 < length v → map f (set (set v from x) (from + 1) y) ≡ splice (map f old) from to (f x ∷ f y ∷ [])
  map-two_put old v from to x y prefix rest lt = ap (map f) (two_put old v from to x y prefix rest lt) ∙ sym (map-splice f old from to (x ∷ y ∷ []))
