-- Mapping characters one after another.
use Rattle.std.proofs.Common.{◌≡◌, ℕ, List, [], ◌∷◌, ◌++◌, sym, ◌∙◌, ap, append_assoc}
use Rattle.std.proofs.lemmas.List.{append-nil}
use Rattle.std.specs.List.{flat_map}

-- What was appended so far and the mapped remaining characters make up the mapped whole. Nothing remains of an empty
-- text.
pub record IsCasing (mapping : ℕ → List ℕ) (all put left : List ℕ) : Type 0 where
  pub joined : put ++ flat_map mapping left ≡ flat_map mapping all
  pub none : all ≡ [] → left ≡ []

module _ (mapping : ℕ → List ℕ) (all : List ℕ) where
  pub casing-none : (put left : List ℕ) → put ≡ [] → left ≡ all → IsCasing mapping all put left
  casing-none put left e f = record { joined = ap (λ xs. xs ++ flat_map mapping left) e ∙ ap (flat_map mapping) f; none = λ empty. f ∙ empty }

  pub casing-more : (put left new others : List ℕ) (c : ℕ) → IsCasing mapping all put left → left ≡ c ∷ others → new ≡ put ++ mapping c → IsCasing mapping all new others
  casing-more put left new others c so_far e more = record {
    joined =
        ap (λ xs. xs ++ flat_map mapping others) more ∙ append_assoc put (mapping c) (flat_map mapping others)
        ∙ ap (λ xs. put ++ flat_map mapping xs) (sym e) ∙ so_far.joined;
    none = λ empty. let f : c ∷ others ≡ [] = sym e ∙ so_far.none empty in cc;
  }

  pub casing-all : (put left : List ℕ) → IsCasing mapping all put left → left ≡ [] → put ≡ flat_map mapping all
  casing-all put left so_far e = sym (append-nil put) ∙ ap (λ xs. put ++ flat_map mapping xs) (sym e) ∙ so_far.joined

  pub casing-some : (put left others : List ℕ) (c : ℕ) → IsCasing mapping all put left → left ≡ c ∷ others → all ≡ [] → ⊥
  casing-some put left others c so_far e empty = let f : c ∷ others ≡ [] = sym e ∙ so_far.none empty in cc
