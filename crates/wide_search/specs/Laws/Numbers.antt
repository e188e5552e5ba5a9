-- Occurrences among units of any width, and among their numbers.
use Rattle.std.proofs.Common.{◌≡◌, ℕ, List, [], ◌∷◌, sym, ◌∙◌, ap, arith, length, take, drop, refl}
use Rattle.std.specs.Prelude.{map}
use Rattle.std.proofs.lemmas.List.{length-map, take-map, drop-map}
use Rattle.wide_search.specs.Occurrences.{OccursAt, OccursNowhere, IsFirstAt, IsLastAt}

module _ {X : Type 0} (number : X → ℕ) where
  -- The numbers of a slice of units are the slice of their numbers.
  numbers-there : (needle us : List X) (at : ℕ) → take (length (map number needle)) (drop at (map number us)) ≡ map number (take (length needle) (drop at us))
  numbers-there needle us at =
      ap (λ n. take n (drop at (map number us))) (length-map needle number) ∙ ap (λ xs. take (length needle) xs) (drop-map number at us) ∙ take-map number (length needle) (drop at us)

  -- Where units occur, their numbers occur.
  pub occurs-numbers : (needle us : List X) (at : ℕ) → OccursAt needle us at → OccursAt (map number needle) (map number us) at
  occurs-numbers needle us at occurs = record {
    within = omega (arith, occurs.within, length-map needle number, length-map us number);
    same = numbers-there needle us at ∙ ap (λ xs. map number xs) occurs.same;
  }

  -- What holds if equal numbers are equal units.
  module _ (same : (x y : X) → number x ≡ number y → x ≡ y) where
    map-same : (xs ys : List X) → map number xs ≡ map number ys → xs ≡ ys
    map-same [] [] e = refl
    map-same [] (y ∷ ys) e = cc
    map-same (x ∷ xs) [] e = cc
    map-same (x ∷ xs) (y ∷ ys) e =
        let head : number x ≡ number y = cc in
        let tail : map number xs ≡ map number ys = cc in
        ap (λ z. z ∷ xs) (same x y head) ∙ ap (λ zs. y ∷ zs) (map-same xs ys tail)

    -- Where the numbers of units occur, the units occur.
    pub occurs-units : (needle us : List X) (at : ℕ) → OccursAt (map number needle) (map number us) at → OccursAt needle us at
    occurs-units needle us at occurs = record {
      within = omega (arith, occurs.within, length-map needle number, length-map us number);
      same = map-same (take (length needle) (drop at us)) needle (sym (numbers-there needle us at) ∙ occurs.same);
    }

    -- If units do not occur, their numbers do not.
    pub nowhere-numbers : (needle us : List X) → OccursNowhere needle us → OccursNowhere (map number needle) (map number us)
    nowhere-numbers needle us nowhere = λ at occurs. nowhere at (occurs-units needle us at occurs)

    -- The first occurrence of units is the first one of their numbers.
    pub first-numbers : (needle us : List X) (at : ℕ) → IsFirstAt needle us at → IsFirstAt (map number needle) (map number us) at
    first-numbers needle us at first = record { here = occurs-numbers needle us at first.here; before = λ earlier l occurs. first.before earlier l (occurs-units needle us earlier occurs) }

    -- The last occurrence of units is the last one of their numbers.
    pub last-numbers : (needle us : List X) (at : ℕ) → IsLastAt needle us at → IsLastAt (map number needle) (map number us) at
    last-numbers needle us at last = record { here = occurs-numbers needle us at last.here; beyond = λ later l occurs. last.beyond later l (occurs-units needle us later occurs) }
