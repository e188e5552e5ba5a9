-- How a list of units ends, over the units of any type.
use Rattle.std.proofs.Common.{◌≡◌, ℕ, ◌+◌, ◌-◌, ◌≤◌, List, [], ◌∷◌, ◌++◌, refl, sym, ◌∙◌, ap, arith, length, get_or, take}
use Rattle.std.specs.Prelude.{map}
use Rattle.std.specs.Char.{IsScalar}
use Rattle.std.proofs.lemmas.List.{take_all, take_more, map_push, map-append, same_from_push}
use Rattle.wide_forms.specs.EncodingForm.{EncodingForm, code_units, IsFault, IsPair}
use Rattle.wide_forms.specs.Segmentation.{Char, Fault}
use Rattle.wide_forms.specs.Items.{items}
use Rattle.wide_forms.specs.Laws.Ends.{items-back_char, items-back_fault}

-- The last element of a slice and the rest, as a pattern matches them.
pub last_rest : {X : Type 0} (xs : List X) (x : X) → 1 ≤ length xs → x ≡ get_or xs (length xs - 1) x → xs ≡ take (length xs - 1) xs ++ x ∷ []
last_rest xs x some e =
    let n : ℕ = length xs - 1 in
    let whole : length xs ≡ n + 1 = omega arith in
    sym (take_all (length xs) xs (omega arith)) ∙ ap (λ k. take k xs) whole ∙ take_more xs n x (omega arith) ∙ ap (λ z. take n xs ++ z ∷ []) (sym e)

pub same_last : {X : Type 0} (zs ys : List X) (y z : X) → zs ≡ ys ++ y ∷ [] → zs ≡ take (length zs - 1) zs ++ z ∷ [] → y ≡ z
same_last zs ys y z e f = (same_from_push ys (take (length zs - 1) zs) y z (sym e ∙ f)).1

map_ends : {X : Type 0} (number : X → ℕ) (xs : List X) (p : List ℕ) (h : ℕ) → map number xs ≡ p ++ h ∷ [] → (ys : List X) × (y : X) × (xs ≡ ys ++ y ∷ []) × (number y ≡ h)
map_ends number [] [] h e = absurd cc
map_ends number [] (q ∷ p) h e = absurd cc
map_ends number (x ∷ []) [] h e = ([], x, refl, cc)
map_ends number (x ∷ []) (q ∷ []) h e = absurd cc
map_ends number (x ∷ []) (q ∷ r ∷ p) h e = absurd cc
map_ends number (x ∷ z ∷ xs) [] h e = absurd cc
map_ends number (x ∷ z ∷ xs) (q ∷ p) h e =
    let f : map number (z ∷ xs) ≡ p ++ h ∷ [] = cc in
    let rest = map_ends number (z ∷ xs) p h f in
    (x ∷ rest.0, rest.1, ap (λ ys. x ∷ ys) rest.2, rest.3)

module _ {X : Type 0} (form : EncodingForm) (number : X → ℕ) (xs : List X) where
  pub items-last_char : (prefix : List X) (x : X) (c : ℕ) → xs ≡ prefix ++ x ∷ [] → IsScalar c → code_units form c ≡ number x ∷ [] → items form (map number xs) ≡ items form (map number prefix) ++ Char c ∷ []
  items-last_char prefix x c split hc e =
      ap (λ ys. items form (map number ys)) split ∙ ap (λ us. items form us) (map_push number prefix x ∙ ap (λ us. map number prefix ++ us) (sym e)) ∙ items-back_char form (map number prefix) c hc

  pub items-last_pair : (prefix : List X) (x y : X) (c : ℕ) → xs ≡ prefix ++ x ∷ y ∷ [] → IsScalar c → code_units form c ≡ number x ∷ number y ∷ [] → items form (map number xs) ≡ items form (map number prefix) ++ Char c ∷ []
  items-last_pair prefix x y c split hc e =
      ap (λ ys. items form (map number ys)) split ∙ ap (λ us. items form us) (map-append number prefix (x ∷ y ∷ []) ∙ ap (λ us. map number prefix ++ us) (sym e)) ∙ items-back_char form (map number prefix) c hc

  pub items-last_fault : (prefix : List X) (x : X) → xs ≡ prefix ++ x ∷ [] → IsFault form (number x) → ((ys : List X) (y : X) → prefix ≡ ys ++ y ∷ [] → ¬ (IsPair form (number y) (number x)))
      → items form (map number xs) ≡ items form (map number prefix) ++ Fault (number x) ∷ []
  items-last_fault prefix x split hu apart =
      ap (λ ys. items form (map number ys)) split ∙ ap (λ us. items form us) (map_push number prefix x)
      ∙ items-back_fault form (map number prefix) (number x) hu (λ p h e pair. let at = map_ends number prefix p h e in apart at.0 at.1 at.2 (rw at.3 pair))
