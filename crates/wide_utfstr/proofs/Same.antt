-- Two lists of characters, compared from the front.
use Rattle.std.proofs.Common.{◌≡◌, ℕ, List, [], ◌∷◌, ap, ◌∙◌, sym, true, false, Bool, Option, Some, None, is_some, not, refl}
use Rattle.std.specs.Prelude.{IsTrue, ◌↔◌, MatchOption}

-- The two lists are equal if and only if their rests are.
pub record IsSameAs (xs ys left rest : List ℕ) : Type 0 where
  pub onto : left ≡ rest → xs ≡ ys
  pub back : xs ≡ ys → left ≡ rest

pub same-none : (xs ys left rest : List ℕ) → left ≡ xs → rest ≡ ys → IsSameAs xs ys left rest
same-none xs ys left rest e f = record { onto = λ s. sym e ∙ s ∙ f; back = λ s. e ∙ s ∙ sym f }

pub same-more : (xs ys left rest lefts rests : List ℕ) (x y : ℕ) → IsSameAs xs ys left rest → left ≡ x ∷ lefts → rest ≡ y ∷ rests → x ≡ y → IsSameAs xs ys lefts rests
same-more xs ys left rest lefts rests x y same e f head = record {
  onto = λ s. same.onto (e ∙ ap (λ zs. x ∷ zs) s ∙ ap (λ z. z ∷ rests) head ∙ sym f);
  back = λ s. let both : x ∷ lefts ≡ y ∷ rests = sym e ∙ same.back s ∙ f in cc;
}

pub same-differ : (xs ys left rest : List ℕ) → IsSameAs xs ys left rest → (left ≡ rest → ⊥) → IsTrue false ↔ (xs ≡ ys)
same-differ xs ys left rest same differ = (λ e. absurd cc, λ e. absurd (differ (same.back e)))

pub same-ends : (xs ys left rest lefts : List ℕ) (r : Option ℕ) (b : Bool) → IsSameAs xs ys left rest → rest ≡ [] → MatchOption r ((left ≡ []) × (lefts ≡ [])) (λ x. left ≡ x ∷ lefts) → is_some r ≡ not b → IsTrue b ↔ (xs ≡ ys)
same-ends xs ys left rest lefts None true same e f g = (λ t. same.onto (f.0 ∙ sym e), λ t. refl)
same-ends xs ys left rest lefts None false same e f g = absurd cc
same-ends xs ys left rest lefts (Some x) true same e f g = absurd cc
same-ends xs ys left rest lefts (Some x) false same e f g = (λ t. absurd cc, λ t. let both : x ∷ lefts ≡ [] = sym f ∙ same.back t ∙ e in absurd cc)
