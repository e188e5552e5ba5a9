-- How a list of units begins, over the units of any type.
use Rattle.std.proofs.Common.{◌≡◌, ℕ, ◌-◌, ◌≤◌, List, [], ◌∷◌, ◌++◌, refl, sym, ◌∙◌, ap, arith, length, get_or, take, drop}
use Rattle.std.specs.Prelude.{map}
use Rattle.std.specs.Char.{IsScalar}
use Rattle.std.proofs.lemmas.List.{take_all}
use Rattle.wide_forms.specs.EncodingForm.{EncodingForm, code_units, IsFault, IsPair}
use Rattle.wide_forms.specs.Segmentation.{Char, Fault}
use Rattle.wide_forms.specs.Items.{items}
use Rattle.wide_forms.specs.Laws.Items.{items-nil}
use Rattle.wide_forms.specs.Laws.Ends.{items-prefix_char, items-prefix_fault}

-- The first element of a slice and the rest, as a pattern matches them.
pub first_rest : {X : Type 0} (xs : List X) (x : X) → 1 ≤ length xs → x ≡ get_or xs 0 x → xs ≡ x ∷ take (length xs - 1) (drop 1 xs)
first_rest [] x some e = absurd (omega arith)
first_rest (y ∷ ys) x some e =
    let long : length (y ∷ ys) - 1 ≡ length ys = omega arith in
    ap (λ z. z ∷ ys) (sym e) ∙ ap (λ zs. x ∷ zs) (sym (ap (λ n. take n ys) long ∙ take_all (length ys) ys (omega arith)))

pub same_first : {X : Type 0} (zs : List X) (y z : X) (tail : List X) → zs ≡ y ∷ tail → z ≡ get_or zs 0 z → y ≡ z
same_first zs y z tail e f = sym (f ∙ ap (λ ws. get_or ws 0 z) e)

pub first_of_nil : {X : Type 0} (form : EncodingForm) (number : X → ℕ) (xs : List X) → xs ≡ [] → items form (map number xs) ≡ []
first_of_nil form number xs e = ap (λ ys. items form (map number ys)) e ∙ items-nil form

module _ {X : Type 0} (form : EncodingForm) (number : X → ℕ) (xs : List X) where
  pub items-first_char : (x : X) (rest : List X) (c : ℕ) → xs ≡ x ∷ rest → IsScalar c → code_units form c ≡ number x ∷ [] → items form (map number xs) ≡ Char c ∷ items form (map number rest)
  items-first_char x rest c split hc e =
      ap (λ ys. items form (map number ys)) split ∙ ap (λ us. items form (us ++ map number rest)) (sym e) ∙ items-prefix_char form c (map number rest) hc

  pub items-first_pair : (x y : X) (rest : List X) (c : ℕ) → xs ≡ x ∷ y ∷ rest → IsScalar c → code_units form c ≡ number x ∷ number y ∷ [] → items form (map number xs) ≡ Char c ∷ items form (map number rest)
  items-first_pair x y rest c split hc e =
      ap (λ ys. items form (map number ys)) split ∙ ap (λ us. items form (us ++ map number rest)) (sym e) ∙ items-prefix_char form c (map number rest) hc

  pub items-first_fault : (x : X) (rest : List X) → xs ≡ x ∷ rest → IsFault form (number x) → ((y : X) (tail : List X) → rest ≡ y ∷ tail → ¬ (IsPair form (number x) (number y)))
      → items form (map number xs) ≡ Fault (number x) ∷ items form (map number rest)
  items-first_fault x rest split hu apart =
      ap (λ ys. items form (map number ys)) split ∙ items-prefix_fault form (number x) (map number rest) hu (λ l back e. no_pair rest apart l back e)
    where
      no_pair : (rest : List X) → ((y : X) (tail : List X) → rest ≡ y ∷ tail → ¬ (IsPair form (number x) (number y))) → (l : ℕ) (back : List ℕ) → map number rest ≡ l ∷ back → ¬ (IsPair form (number x) l)
      no_pair [] apart l back e pair = cc
      no_pair (y ∷ tail) apart l back e pair = let same : number y ≡ l = cc in apart y tail refl (rw same pair)
