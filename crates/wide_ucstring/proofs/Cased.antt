-- C strings with their ASCII letters in the other case.
use Rattle.std.proofs.Common.{◌≡◌, ℕ, ◌-◌, List, map, take, length, sym, ap, subst, ◌∙◌}
use Rattle.std.proofs.lemmas.List.{take-map, length-map}
use Rattle.wide_unit.specs.Nul.{IsFirstNul}
use Rattle.wide_ucstr.specs.CString.{IsCString, contents}
use Rattle.wide_ascii.proofs.Texts.{IsOfAscii, IsFirstNul-mapped}

module _ {X : Type 0} (number : X → ℕ) (f : ℕ → ℕ) (old new : List X) (units : map number new ≡ map f (map number old)) where
  long : length new ≡ length old
  long = sym (length-map new number) ∙ ap length units ∙ length-map (map number old) f ∙ length-map old number

  pub contents-cased : map number (contents new) ≡ map f (map number (contents old))
  contents-cased =
      let most = length old - 1 in
      ap (λ n. map number (take (n - 1) new)) long ∙ sym (take-map number most new) ∙ ap (take most) units ∙ take-map f most (map number old) ∙ ap (map f) (take-map number most old)

  pub IsCString-cased : IsOfAscii f → IsCString (map number old) → IsCString (map number new)
  IsCString-cased of_ascii is =
      subst IsCString (sym units) (subst (λ n. IsFirstNul (map f (map number old)) (n - 1)) (sym (length-map (map number old) f)) (IsFirstNul-mapped f of_ascii (map number old) (length (map number old) - 1) is))
