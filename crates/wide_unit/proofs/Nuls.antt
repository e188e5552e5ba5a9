-- NULs among units, by the numbers of the units.
use Rattle.std.proofs.Common.{◌≡◌, ◌≢◌, ℕ, ◌<◌, List, length, map, take, get_or, Option, Some, None, arith, sym, ◌∙◌, subst}
use Rattle.std.specs.Prelude.{IfNone, IfSome, MatchOption}
use Rattle.std.specs.List.{All, take-map}
use Rattle.std.proofs.lemmas.List.{get_or-take, length-map, length-take}
use Rattle.std.proofs.lemmas.List.Elements.{All-map, All-get_or}
use Rattle.wide_unit.specs.Nul.{NoNulBefore, HasNoNul, IsFirstNul}

module _ {X : Type 0} (number : X → ℕ) (xs : List X) where
  no_nul : All (λ x. number x ≢ 0) xs → HasNoNul (map number xs)
  no_nul none offset lt nul = All-get_or (λ u. u ≢ 0) (map number xs) offset 0 lt (All-map (λ u. u ≢ 0) number xs none) nul.1

  no_nul_before : (offset : ℕ) → All (λ x. number x ≢ 0) (take offset xs) → NoNulBefore (map number xs) offset
  no_nul_before offset none earlier lt nul =
      let us = map number xs in
      let prefix : All (λ u. u ≢ 0) (take offset us) = subst (All (λ u. u ≢ 0)) (sym (take-map number offset xs)) (All-map (λ u. u ≢ 0) number (take offset xs) none) in
      let inside : earlier < length (take offset us) = omega (arith, lt, nul.0, length-take offset us) in
      All-get_or (λ u. u ≢ 0) (take offset us) earlier 0 inside prefix (get_or-take offset us earlier 0 lt ∙ nul.1)

  -- The first unit whose number is 0 is the first NUL.
  pub first_nul_of : (offset : Option ℕ)
      → IfNone offset (All (λ x. number x ≢ 0) xs)
      → IfSome offset (λ p. All (λ x. number x ≢ 0) (take p xs))
      → IfSome offset (λ p. p < length xs)
      → IfSome offset (λ p. get_or (map number xs) p 0 ≡ 0)
      → MatchOption offset (HasNoNul (map number xs)) (IsFirstNul (map number xs))
  first_nul_of None none before within at = no_nul none
  first_nul_of (Some p) none before within at = record { at = (rw length-map within, at); before = no_nul_before p before }
