-- Well-formed UTF-32 units equal their characters.
use Rattle.std.proofs.Common.{◌≡◌, ℕ, suc, ◌<◌, List, [], ◌∷◌, ◌++◌, map, length, take, drop, set, ap, sym, subst, ◌∙◌, refl, arith}
use Rattle.std.specs.Char.{IsScalar}
use Rattle.std.specs.List.{refill}
use Rattle.std.proofs.lemmas.List.{map-id, set_split}
use Rattle.std.proofs.Math.Seq.{take-append_seam}
use Rattle.wide_forms.specs.EncodingForm.{Utf32, encode}
use Rattle.wide_forms.specs.Items.{chars, IsWellFormed}
use Rattle.wide_forms.specs.Laws.Boundaries.{IsBoundary-at}
use Rattle.wide_forms.specs.Laws.Ends.{IsWellFormed-code_units}
use Rattle.wide_forms.specs.Laws.Splices.{IsWellFormed-splice}
use Rattle.wide_forms.specs.Laws.Utf32.{chars32-well_formed}

pub well32 : (us : List ℕ) → IsWellFormed Utf32 (map (λ u. u) us) → IsWellFormed Utf32 us
well32 us well = subst (λ vs. IsWellFormed Utf32 vs) (map-id us) well

pub encode32 : (cs : List ℕ) → encode Utf32 cs ≡ cs
encode32 [] = refl
encode32 (c ∷ cs) = ap (λ us. c ∷ us) (encode32 cs)

-- Replacing one unit by a character keeps the units well formed.
module _ (us : List ℕ) (well : IsWellFormed Utf32 us) (index c : ℕ) (within : index < length us) (scalar : IsScalar c) where
  pub set-well_formed : IsWellFormed Utf32 (set us index c)
  set-well_formed =
      subst (λ vs. IsWellFormed Utf32 vs) (sym (set_split us index c within))
      (IsWellFormed-splice Utf32 us index (suc index) well (IsBoundary-at Utf32 us index (omega (arith, within)) (λ low. low)) (IsBoundary-at Utf32 us (suc index) (omega (arith, within)) (λ low. low)) (c ∷ []) (IsWellFormed-code_units Utf32 c scalar))

  pub set-chars : chars Utf32 (set us index c) ≡ set (chars Utf32 us) index c
  set-chars = chars32-well_formed (set us index c) set-well_formed ∙ ap (λ vs. set vs index c) (sym (chars32-well_formed us well))

-- Writing a slice back over all units gives that slice.
pub refill_all : (us vs : List ℕ) → length vs ≡ length us → refill (length us) us vs ≡ vs
refill_all us vs long = ap (λ n. take n (vs ++ drop (length vs) us)) (sym long) ∙ take-append_seam vs (drop (length vs) us)
