-- The first line feed of a list of units, over the units of any type.
use Rattle.std.proofs.Common.{◌≡◌, ◌≢◌, ℕ, suc, ◌+◌, ◌-◌, ◌<◌, ◌≤◌, List, [], ◌∷◌, ◌++◌, refl, sym, ◌∙◌, ap, arith, length, get_or, take, drop}
use Rattle.std.specs.Prelude.{map}
use Rattle.std.specs.List.{All}
use Rattle.std.proofs.lemmas.List.{take-append-drop, drop-map, length-map, map_push}
use Rattle.std.specs.List.{take-map}
use Rattle.std.proofs.Math.Seq.{drop-cons}
use Rattle.std.proofs.lemmas.List.Elements.{All-map}
use Rattle.wide_forms.specs.EncodingForm.{EncodingForm}
use Rattle.wide_forms.specs.Lines.{line_feed, carriage_return, IsFirstLine}
use Rattle.wide_forms.specs.Laws.Lines.{IsFirstLine-feed, IsFirstLine-return, IsFirstLine-whole}
use Rattle.wide_unit.proofs.Back.{last_rest}

module _ {X : Type 0} (form : EncodingForm) (number : X → ℕ) (xs : List X) where
  pub first_line-whole : xs ≢ [] → All (λ u. number u ≢ line_feed) xs → IsFirstLine form (map number xs) (map number xs) []
  first_line-whole some none = IsFirstLine-whole form (map number xs) (map-some xs some) (All-map (λ u. u ≢ line_feed) number xs none)
    where
      map-some : (ys : List X) → ys ≢ [] → map number ys ≢ []
      map-some [] other e = other refl
      map-some (y ∷ ys) other e = cc

  module _ (offset : ℕ) (within : offset < length xs) (at : get_or (map number xs) offset 0 ≡ line_feed) (none : All (λ u. number u ≢ line_feed) (take offset xs)) where
    split : map number xs ≡ map number (take offset xs) ++ line_feed ∷ map number (drop (offset + 1) xs)
    split =
        let us = map number xs in
        let next : suc offset ≡ offset + 1 = omega arith in
        let inside : offset < length us = omega (arith, length-map xs number) in
        sym (take-append-drop offset us) ∙ ap (λ vs. vs ++ drop offset us) (take-map number offset xs) ∙ ap (λ vs. map number (take offset xs) ++ vs) (drop-cons us offset 0 inside ∙ ap (λ u. u ∷ drop (suc offset) us) at ∙ ap (λ n. line_feed ∷ drop n us) next ∙ ap (λ vs. line_feed ∷ vs) (drop-map number (offset + 1) xs))

    before : All (λ u. u ≢ line_feed) (map number (take offset xs))
    before = All-map (λ u. u ≢ line_feed) number (take offset xs) none

    pub first_line-feed : ((prefix : List X) (x : X) → take offset xs ≡ prefix ++ x ∷ [] → number x ≢ carriage_return) → IsFirstLine form (map number xs) (map number (take offset xs)) (map number (drop (offset + 1) xs))
    first_line-feed other = IsFirstLine-feed form (map number xs) (map number (take offset xs)) (map number (drop (offset + 1) xs)) split before (λ line e. ends (take offset xs) other line e)
      where
        ends : (ys : List X) → ((prefix : List X) (x : X) → ys ≡ prefix ++ x ∷ [] → number x ≢ carriage_return) → (line : List ℕ) → map number ys ≡ line ++ carriage_return ∷ [] → ⊥
        ends [] avoids [] e = cc
        ends [] avoids (u ∷ line) e = cc
        ends (y ∷ []) avoids [] e = avoids [] y refl cc
        ends (y ∷ []) avoids (u ∷ []) e = cc
        ends (y ∷ []) avoids (u ∷ v ∷ line) e = cc
        ends (y ∷ z ∷ ys) avoids [] e = cc
        ends (y ∷ z ∷ ys) avoids (u ∷ line) e = let f : map number (z ∷ ys) ≡ line ++ carriage_return ∷ [] = cc in ends (z ∷ ys) (λ prefix x g. avoids (y ∷ prefix) x (ap (λ ws. y ∷ ws) g)) line f

    pub first_line-return : (x : X) → 1 ≤ length (take offset xs) → x ≡ get_or (take offset xs) (length (take offset xs) - 1) x → number x ≡ carriage_return
        → IsFirstLine form (map number xs) (map number (take (length (take offset xs) - 1) (take offset xs))) (map number (drop (offset + 1) xs))
    first_line-return x some last return =
        let prefix = take offset xs in
        let line = take (length prefix - 1) prefix in
        let ends : map number prefix ≡ map number line ++ carriage_return ∷ [] = ap (map number) (last_rest prefix x some last) ∙ map_push number line x ∙ ap (λ u. map number line ++ u ∷ []) return in
        IsFirstLine-return form (map number xs) (map number prefix) (map number (drop (offset + 1) xs)) split before (map number line) ends
