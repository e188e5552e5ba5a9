-- A well-formed needle occurs in well-formed units of any width at a boundary, and the offset after it is a boundary.
use Rattle.std.proofs.Common.{◌≡◌, ℕ, zero, suc, ◌+◌, ◌-◌, ◌<◌, List, [], ◌∷◌, ◌++◌, inl, inr, refl, sym, ◌∙◌, ap, subst, arith, length, length-append, take, drop}
use Rattle.std.specs.Prelude.{map}
use Rattle.std.specs.Char.{IsScalar}
use Rattle.std.proofs.lemmas.Bool.{cases_lt}
use Rattle.std.proofs.lemmas.List.{length-map, take_all}
use Rattle.std.proofs.Math.Seq.{take-append_seam, drop-append_seam}
use Rattle.wide_forms.specs.EncodingForm.{EncodingForm, code_units}
use Rattle.wide_forms.specs.Items.{IsBoundary, IsWellFormed}
use Rattle.wide_forms.specs.Offsets.{IsCharBoundary}
use Rattle.wide_forms.specs.Laws.Boundaries.{IsBoundary-end}
use Rattle.wide_forms.specs.Laws.Offsets.{IsBoundary-start}
use Rattle.wide_forms.specs.Laws.Ends.{IsWellFormed-code_units}
use Rattle.wide_forms.specs.Laws.Forms.{some_units}
use Rattle.wide_unit.proofs.CharBoundaries.{IsCharBoundary-of}
use Rattle.wide_search.specs.Occurrences.{OccursAt, IsFirstAt, IsFirstFrom, IsLastAt, BeginsWith, EndsWith}
use Rattle.wide_search.specs.Laws.Ends.{IsBoundary-needle, IsBoundary-after_needle}
use Rattle.wide_search.specs.Laws.Numbers.{occurs-numbers}

-- An empty needle occurs first at the beginning, and last at the end.
first-empty : {X : Type 0} (us : List X) (at : ℕ) → IsFirstAt [] us at → at ≡ 0
first-empty us zero first = refl
first-empty us (suc n) first = absurd (first.before 0 (omega arith) (record { within = omega arith; same = refl }))

last-empty : {X : Type 0} (us : List X) (at : ℕ) → IsLastAt [] us at → at ≡ length us
last-empty us at last = elim (cases_lt at (length us)) [
  | inl below ↦ absurd (last.beyond (length us) below (record { within = omega arith; same = refl }))
  | inr rest ↦ omega (arith, rest, last.here.within)
]

-- An empty needle occurs at the offset from which on it is looked for.
from-empty : {X : Type 0} (us : List X) (from at : ℕ) → IsFirstFrom [] us from at → at ≡ from
from-empty us from at first = elim (cases_lt from at) [
  | inl below ↦ absurd (first.before from (omega arith) below (record { within = omega (arith, below, first.here.within); same = refl }))
  | inr rest ↦ omega (arith, rest, first.after)
]

module _ {X : Type 0} (form : EncodingForm) (number : X → ℕ) where
  -- The offset of the needle, and the offset after it.
  abbrev pub Ends : List X → List X → ℕ → Type 0
  Ends needle us at = IsCharBoundary form (map number us) at × IsCharBoundary form (map number us) (at + length needle)

  module _ (us : List X) (well : IsWellFormed form (map number us)) where
    seen : (at : ℕ) → IsBoundary form (map number us) at → IsCharBoundary form (map number us) at
    seen at b = IsCharBoundary-of form (map number us) at well b

    -- Both ends of a needle that has units are boundaries.
    pub ends-some : (needle : List X) (at : ℕ) → IsWellFormed form (map number needle) → 0 < length needle → OccursAt needle us at → Ends needle us at
    ends-some needle at well_needle some occurs =
        let there = occurs-numbers number needle us at occurs in
        let more : 0 < length (map number needle) = omega (arith, some, length-map needle number) in (
          seen at (IsBoundary-needle form (map number needle) (map number us) at well_needle more there),
          seen (at + length needle) (subst (λ n. IsBoundary form (map number us) (at + n)) (length-map needle number) (IsBoundary-after_needle form (map number needle) (map number us) at well_needle more there)),
        )

    ends-none : (at : ℕ) → IsBoundary form (map number us) at → Ends [] us at
    ends-none at b = let same : at ≡ at + 0 = omega arith in (seen at b, seen (at + 0) (subst (λ n. IsBoundary form (map number us) n) same b))

    -- Both ends of the first occurrence are boundaries.
    pub first-ends : (needle : List X) (at : ℕ) → IsWellFormed form (map number needle) → IsFirstAt needle us at → Ends needle us at
    first-ends [] at well_needle first = ends-none at (subst (λ n. IsBoundary form (map number us) n) (sym (first-empty us at first)) (IsBoundary-start form (map number us)))
    first-ends (x ∷ xs) at well_needle first = ends-some (x ∷ xs) at well_needle (omega arith) first.here

    -- Both ends of the first occurrence from a boundary on are boundaries.
    pub from-ends : (needle : List X) (from at : ℕ) → IsWellFormed form (map number needle) → IsCharBoundary form (map number us) from → IsFirstFrom needle us from at → Ends needle us at
    from-ends [] from at well_needle b first =
        let here : from ≡ at = sym (from-empty us from at first) in
        let end : from ≡ at + 0 = omega (arith, here) in
        (subst (λ n. IsCharBoundary form (map number us) n) here b, subst (λ n. IsCharBoundary form (map number us) n) end b)
    from-ends (x ∷ xs) from at well_needle b first = ends-some (x ∷ xs) at well_needle (omega arith) first.here

    -- Both ends of the last occurrence are boundaries.
    pub last-ends : (needle : List X) (at : ℕ) → IsWellFormed form (map number needle) → IsLastAt needle us at → Ends needle us at
    last-ends [] at well_needle last =
        ends-none at (subst (λ n. IsBoundary form (map number us) n) (length-map us number ∙ sym (last-empty us at last)) (IsBoundary-end form (map number us)))
    last-ends (x ∷ xs) at well_needle last = ends-some (x ∷ xs) at well_needle (omega arith) last.here

    -- The ends of an occurrence of a character are boundaries.
    pub char-ends : (c at : ℕ) → IsScalar c → OccursAt (code_units form c) (map number us) at
        → IsCharBoundary form (map number us) at × IsCharBoundary form (map number us) (at + length (code_units form c))
    char-ends c at scalar occurs =
        let well_needle = IsWellFormed-code_units form c scalar in (
          seen at (IsBoundary-needle form (code_units form c) (map number us) at well_needle (some_units form c) occurs),
          seen (at + length (code_units form c)) (IsBoundary-after_needle form (code_units form c) (map number us) at well_needle (some_units form c) occurs),
        )

    -- A needle with which the units begin occurs at offset 0, and one with which they end occurs at its distance from
    -- the end.
    occurs-start : (needle rest : List X) → us ≡ needle ++ rest → OccursAt needle us 0
    occurs-start needle rest e = record {
      within = omega (arith, ap length e, length-append needle rest);
      same = ap (take (length needle)) e ∙ take-append_seam needle rest;
    }

    -- The end of a needle with which the units begin is a boundary.
    pub begins-end : (needle : List X) → IsWellFormed form (map number needle) → BeginsWith needle us → IsCharBoundary form (map number us) (length needle)
    begins-end [] well_needle begins = seen 0 (IsBoundary-start form (map number us))
    begins-end (x ∷ xs) well_needle begins =
        let none : 0 + length (x ∷ xs) ≡ length (x ∷ xs) = omega arith in
        subst (λ n. IsCharBoundary form (map number us) n) none (ends-some (x ∷ xs) 0 well_needle (omega arith) (occurs-start (x ∷ xs) begins.0 begins.1)).1

    occurs-end : (needle prefix : List X) → us ≡ prefix ++ needle → OccursAt needle us (length us - length needle)
    occurs-end needle prefix e =
        let long : length us ≡ length prefix + length needle = ap length e ∙ length-append prefix needle in
        let at : length us - length needle ≡ length prefix = omega (arith, long) in
        record {
          within = omega (arith, long);
          same = ap (take (length needle)) (ap (λ n. drop n us) at ∙ ap (drop (length prefix)) e ∙ drop-append_seam prefix needle) ∙ take_all (length needle) needle (omega arith);
        }

    -- The start of a needle with which the units end is a boundary.
    pub ends-start : (needle : List X) → IsWellFormed form (map number needle) → EndsWith needle us → IsCharBoundary form (map number us) (length us - length needle)
    ends-start [] well_needle ends =
        let all : length (map number us) ≡ length us - 0 = omega (arith, length-map us number) in
        seen (length us - 0) (subst (λ n. IsBoundary form (map number us) n) all (IsBoundary-end form (map number us)))
    ends-start (x ∷ xs) well_needle ends = (ends-some (x ∷ xs) (length us - length (x ∷ xs)) well_needle (omega arith) (occurs-end (x ∷ xs) ends.0 ends.1)).0
