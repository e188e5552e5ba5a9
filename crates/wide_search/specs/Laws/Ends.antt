-- A well-formed needle that is not empty occurs in any units only at a boundary, and the offset after it is a boundary.
use Rattle.std.proofs.Common.{◌≡◌, ℕ, ◌+◌, ◌<◌, List, [], ◌∷◌, ◌++◌, refl, sym, ◌∙◌, ap, subst, arith, length, length-append, append_assoc, take, drop}
use Rattle.std.proofs.lemmas.List.{length-take-le}
use Rattle.wide_forms.specs.EncodingForm.{EncodingForm}
use Rattle.wide_forms.specs.Items.{IsBoundary, IsWellFormed}
use Rattle.wide_forms.specs.Laws.Items.{IsCut}
use Rattle.wide_forms.specs.Laws.Boundaries.{IsBoundary-of_cut}
use Rattle.wide_forms.specs.Laws.Ends.{IsCut-after, IsCut-before, ends-after}
use Rattle.wide_search.specs.Occurrences.{OccursAt}
use Rattle.wide_search.specs.Laws.Occurrences.{parted}

-- If no pair is split before a needle that is not empty, none is split before what begins with it.
cut-before_needle : (form : EncodingForm) (prefix needle rest : List ℕ) → 0 < length needle → IsCut form prefix needle → IsCut form prefix (needle ++ rest)
cut-before_needle form prefix [] rest some cut = absurd (omega (arith, some))
cut-before_needle form prefix (x ∷ xs) rest some cut = λ before back h l e f. let same : l ≡ x = cc in rw same (cut before xs h x e refl)

not_nil : (needle : List ℕ) → 0 < length needle → needle ≡ [] → ⊥
not_nil [] some e = omega (arith, some)
not_nil (x ∷ xs) some e = cc

-- If no pair is split after a needle that is not empty, none is split after what ends with it.
cut-after_needle : (form : EncodingForm) (prefix needle rest : List ℕ) → 0 < length needle → IsCut form needle rest → IsCut form (prefix ++ needle) rest
cut-after_needle form prefix needle rest some cut = λ before back h l e f. let at = ends-after prefix needle before h (not_nil needle some) e in cut at.0 back h l at.1 f

module _ (form : EncodingForm) (needle us : List ℕ) (at : ℕ) (well : IsWellFormed form needle) (some : 0 < length needle) (occurs : OccursAt needle us at) where
  abbrev prefix : List ℕ
  prefix = take at us

  abbrev rest : List ℕ
  rest = drop (at + length needle) us

  length-prefix : length prefix ≡ at
  length-prefix = length-take-le at us (omega (arith, occurs.within))

  joined : prefix ++ (needle ++ rest) ≡ us
  joined = sym (parted needle us at occurs)

  -- A well-formed needle that is not empty occurs at a boundary.
  pub IsBoundary-needle : IsBoundary form us at
  IsBoundary-needle =
      let b = IsBoundary-of_cut form prefix (needle ++ rest) (cut-before_needle form prefix needle rest some (IsCut-before form prefix needle well)) in
      subst (λ n. IsBoundary form us n) length-prefix (subst (λ xs. IsBoundary form xs (length prefix)) joined b)

  pub IsBoundary-after_needle : IsBoundary form us (at + length needle)
  IsBoundary-after_needle =
      let b = IsBoundary-of_cut form (prefix ++ needle) rest (cut-after_needle form prefix needle rest some (IsCut-after form needle rest well)) in
      let long : length (prefix ++ needle) ≡ at + length needle = length-append prefix needle ∙ ap (λ n. n + length needle) length-prefix in
      subst (λ n. IsBoundary form us n) long (subst (λ xs. IsBoundary form xs (length (prefix ++ needle))) (append_assoc prefix needle rest ∙ joined) b)
