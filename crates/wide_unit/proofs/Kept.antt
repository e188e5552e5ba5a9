-- The text without U+FFFD, character by character.
use Rattle.std.proofs.Common.{◌≡◌, ℕ, List, ◌∷◌, ap, cond}
use Rattle.std.specs.Prelude.{not}
use Rattle.std.specs.List.{filter}
use Rattle.std.proofs.lemmas.Bool.{ne_eqb}
use Rattle.wide_forms.specs.Texts.{is_kept}

pub kept-yes : (c : ℕ) (cs : List ℕ) → ¬ (c ≡ 0xFFFD) → filter is_kept (c ∷ cs) ≡ c ∷ filter is_kept cs
kept-yes c cs other = ap (λ b. cond (not b) (c ∷ filter is_kept cs) (filter is_kept cs)) (ne_eqb c 0xFFFD other)

pub kept-no : (c : ℕ) (cs : List ℕ) → c ≡ 0xFFFD → filter is_kept (c ∷ cs) ≡ filter is_kept cs
kept-no c cs e = ap (λ d. filter is_kept (d ∷ cs)) e
