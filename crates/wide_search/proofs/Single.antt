-- A needle of one unit occurs at the offsets of that unit.
use Rattle.std.proofs.Common.{◌≡◌, ◌≢◌, ℕ, zero, suc, ◌<◌, List, [], ◌∷◌, refl, ap, ◌∙◌, arith, length, map, take, IfSome, IfNone}
use Rattle.std.specs.Prelude.{Option, Some, None, slice_index}
use Rattle.std.specs.List.{All}
use Rattle.wide_search.specs.Occurrences.{OccursAt, OccursNowhere, IsFirstAt}
use Rattle.wide_search.proofs.Offsets.{none-reported, before-reported}

-- There are no offsets before the beginning.
pub none-yet : {X : Type 0} (needle us : List X) (k : ℕ) → k < 0 → ¬ (OccursAt needle us k)
none-yet needle us k l occurs = absurd (omega (arith, l))

module _ {X : Type 0} (number : X → ℕ) where
  -- A unit with the number of the needle is an occurrence.
  pub unit-occurs : ((x y : X) → number x ≡ number y → x ≡ y) → (us : List X) (u : X) (at : ℕ) → at < length us → slice_index (map number us) at ≡ number u → OccursAt (u ∷ []) us at
  unit-occurs same [] u at l e = absurd (omega (arith, l))
  unit-occurs same (x ∷ us) u zero l e = record { within = omega arith; same = ap (λ y. y ∷ []) (same x u e) }
  unit-occurs same (x ∷ us) u (suc at) l e =
      let later = unit-occurs same us u at (omega (arith, l)) e in
      record { within = omega (arith, later.within); same = later.same }

  -- If no unit has the number of the needle, it does not occur.
  pub nowhere-reported : (u : X) (v : ℕ) (us : List X) → v ≡ number u → (r : Option ℕ) → IfNone r (All (λ x. number x ≢ v) us) → IfNone r (OccursNowhere (u ∷ []) us)
  nowhere-reported u v us code None all = none-reported number (u ∷ []) us [] us u v 0 refl code refl (none-yet (u ∷ []) us) all
  nowhere-reported u v us code (Some at) all = all

  -- The first unit with the number of the needle is its first occurrence.
  pub first-reported : ((x y : X) → number x ≡ number y → x ≡ y) → (u : X) (v : ℕ) (us : List X) → v ≡ number u → (r : Option ℕ)
      → IfSome r (λ offset. offset < length us) → IfSome r (λ offset. All (λ x. number x ≢ v) (take offset us)) → IfSome r (λ offset. slice_index (map number us) offset ≡ v)
      → IfSome r (IsFirstAt (u ∷ []) us)
  first-reported same u v us code None within before at = within
  first-reported same u v us code (Some offset) within before at = record {
    here = unit-occurs same us u offset within (at ∙ code);
    before = λ k l. before-reported number (u ∷ []) us [] us u v 0 refl code refl (none-yet (u ∷ []) us) offset before k (omega (arith, l));
  }
