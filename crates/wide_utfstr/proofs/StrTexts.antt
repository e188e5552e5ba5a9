-- The characters of a text and those of a `&str`, compared from the front, by what a function makes of each.
use Rattle.std.proofs.Common.{◌≡◌, ℕ, List, [], ◌∷◌, ◌++◌, Bool, true, false, nat_eq, Option, is_some, not, refl, sym, ap, ◌∙◌, map}
use Rattle.std.specs.Prelude.{IsTrue, ◌↔◌, slice_get}
use Rattle.std.specs.Char.{encode_utf8}
use Rattle.std.specs.Str.{IsUtf8, chars}
use Rattle.std.proofs.lemmas.Bool.Decides.{Decides-eqb}
use Rattle.std.proofs.lemmas.Str.{chars_past_char}
use Rattle.wide_utfstr.proofs.Same.{IsSameAs, same-more, same-differ}

none-left : (f : ℕ → ℕ) (cs : List ℕ) (b : Bool) → is_some (slice_get cs 0) ≡ not b → IsTrue b ↔ (map f cs ≡ [])
none-left f [] true is = (λ t. refl, λ e. refl)
none-left f [] false is = absurd cc
none-left f (c ∷ cs) true is = absurd cc
none-left f (c ∷ cs) false is = (λ t. absurd cc, λ e. absurd cc)

-- `ours` is left of the text, and the bytes `theirs` are left of the `&str`.
module _ (f : ℕ → ℕ) (xs ys ours theirs : List ℕ) (utf8 : IsUtf8 theirs) (same : IsSameAs xs ys (map f ours) (map f (chars theirs))) where
  module _ (left rest : List ℕ) (c d : ℕ) (first : ours ≡ c ∷ left) (other : theirs ≡ encode_utf8 d ++ rest) where
    beyond : map f (chars theirs) ≡ f d ∷ map f (chars rest)
    beyond = ap (map f) (chars_past_char theirs rest d utf8 other)

    -- The first characters are alike.
    pub alike-next : true ≡ nat_eq (f c) (f d) → IsSameAs xs ys (map f left) (map f (chars rest))
    alike-next alike = same-more xs ys (map f ours) (map f (chars theirs)) (map f left) (map f (chars rest)) (f c) (f d) same (ap (map f) first) beyond ((Decides-eqb (f c) (f d)).0 (sym alike))

    -- The first characters are not alike.
    pub unlike-next : false ≡ nat_eq (f c) (f d) → IsTrue false ↔ (xs ≡ ys)
    unlike-next unlike = same-differ xs ys (map f ours) (map f (chars theirs)) same (λ both.
        let firsts : f c ∷ map f left ≡ f d ∷ map f (chars rest) = sym (ap (map f) first) ∙ both ∙ beyond in
        let head : f c ≡ f d = cc in
        let yes : nat_eq (f c) (f d) ≡ true = (Decides-eqb (f c) (f d)).1 head in
        absurd cc)

  -- Nothing is left of the text, and `next` is what is left first of the `&str`.
  pub alike-ends : (next : Option ℕ) (none : Bool) → ours ≡ [] → next ≡ slice_get (chars theirs) 0 → is_some next ≡ not none → IsTrue none ↔ (xs ≡ ys)
  alike-ends next none end is reported =
      let ends = none-left f (chars theirs) none (ap is_some (sym is) ∙ reported) in
      (λ t. same.onto (ap (map f) end ∙ sym (ends.0 t)), λ e. ends.1 (sym (same.back e) ∙ ap (map f) end))
