-- A fused source, for each function that returns what the source itself has left.
use Rattle.std.proofs.Common.{◌≡◌, true, false, Bool, cond, List, [], ◌∷◌, ◌++◌, Option, Some, None, ◌⊎◌, inl, inr, refl, sym, ap, ◌∙◌}
use Rattle.std.specs.Prelude.{is_none, IfSome, MatchOption}
use Rattle.std.specs.Iterator.{YieldsFirst, YieldsLast}
use Rattle.std.specs.Bool.{MatchBool}
use Rattle.wide_iter.specs.declared.source.Source.{Source}
use Rattle.wide_iter.specs.Over.{GivesFirst, GivesLast}
use Rattle.wide_iter.specs.Source.{left_in_source, source_steps}

module _ {A : Type 0} (whole us ts : List A) (b : Bool) (e : whole ≡ us) where
  -- `whole` is what was left, and the source has ended after a call that returned `None`.
  asked_first : (r : Option A) → b ≡ is_none r → MatchOption r ((us ≡ []) × (ts ≡ [])) (λ x. us ≡ x ∷ ts) → MatchOption r ((whole ≡ []) × (cond b [] ts ≡ [])) (λ x. whole ≡ x ∷ cond b [] ts)
  asked_first None f h = (e ∙ h.0, ap (λ d. cond d [] ts) f)
  asked_first (Some x) f h = e ∙ h ∙ ap (λ d. x ∷ cond d [] ts) (sym f)

  asked_last : (r : Option A) → b ≡ is_none r → MatchOption r ((us ≡ []) × (ts ≡ [])) (λ x. us ≡ ts ++ x ∷ []) → MatchOption r ((whole ≡ []) × (cond b [] ts ≡ [])) (λ x. whole ≡ cond b [] ts ++ x ∷ [])
  asked_last None f h = (e ∙ h.0, ap (λ d. cond d [] ts) f)
  asked_last (Some x) f h = e ∙ h ∙ ap (λ d. cond d [] ts ++ x ∷ []) (sym f)

pub by_end : {P Q : Type 0} (b : Bool) → MatchBool b P Q → ((b ≡ true) × P) ⊎ ((b ≡ false) × Q)
by_end true h = inl (refl, h)
by_end false h = inr (refl, h)

pub left_where : {I A : Type 0} (rest : I → List A) (s : Source I) (b : Bool) → s.ended ≡ b → left_in_source rest s ≡ cond b [] (rest s.inner)
left_where rest s b e = ap (λ d. cond d [] (rest s.inner)) e

module _ {I A : Type 0} {Fits : A → Type 0} {steps : I → Option A → I → Type 0} (rest : I → List A) where
  pub unasked_first : GivesFirst Fits steps rest → (s t : Source I) (r : Option A) → IfSome r Fits → source_steps steps s r t → YieldsFirst (left_in_source rest) s r t
  unasked_first reports s t r fits h = elim (by_end s.ended h) [
    | inl done ↦ (let none = left_where rest s true done.0 in rw done.1.0 (none, ap (left_in_source rest) done.1.1 ∙ none))
    | inr more ↦ asked_first _ _ _ _ (left_where rest s false more.0) r more.1.1 (reports.at s.inner r t.inner fits more.1.0)
  ]

  pub unasked_last : GivesLast Fits steps rest → (s t : Source I) (r : Option A) → IfSome r Fits → source_steps steps s r t → YieldsLast (left_in_source rest) s r t
  unasked_last reports s t r fits h = elim (by_end s.ended h) [
    | inl done ↦ (let none = left_where rest s true done.0 in rw done.1.0 (none, ap (left_in_source rest) done.1.1 ∙ none))
    | inr more ↦ asked_last _ _ _ _ (left_where rest s false more.0) r more.1.1 (reports.at s.inner r t.inner fits more.1.0)
  ]
