-- Units of any type that are stored one after another.
use Rattle.std.proofs.Common.{◌≡◌, ℕ, suc, ◌+◌, ◌<◌, ◌≤◌, List, [], ◌∷◌, ◌++◌, Option, Some, None, length, get_or, map, set, take, refl, sym, ap, ◌∙◌, arith, append_assoc}
use Rattle.std.proofs.Math.Seq.{take-suc}
use Rattle.std.proofs.lemmas.List.{length-map, map-append, take-map, take-take, take_more_set}
use Rattle.wide_forms.specs.EncodingForm.{EncodingForm, Utf16, Utf32, code_units}
use Rattle.wide_forms.specs.Laws.Forms.{one_unit}
use Rattle.wide_forms.proofs.Stored.{compressed-lead}
use Rattle.wide_unit.specs.Unit.{numbers_of}

-- A character below 0x1_0000 is one unit in each form.
one_unit-plain : (form : EncodingForm) (c : ℕ) → c < 0x1_0000 → code_units form c ≡ c ∷ []
one_unit-plain Utf16 c below = one_unit c below
one_unit-plain Utf32 c below = refl

one_more : (cs : List ℕ) (k : ℕ) → k < length cs → take (k + 1) cs ≡ take k cs ++ get_or cs k 0 ∷ []
one_more cs k within =
    let next : k + 1 ≡ suc k = omega arith in
    ap (λ n. take n cs) next ∙ take-suc cs k 0 within

module _ {X : Type 0} (number : X → ℕ) where
  pub unit-number : (form : EncodingForm) (c : ℕ) (u : X) (second : Option X) → numbers_of number u second ≡ code_units form c → c < 0x1_0000 → number u ≡ c
  unit-number form c u None units below = (let one : number u ∷ [] ≡ c ∷ [] = units ∙ one_unit-plain form c below in cc)
  unit-number form c u (Some v) units below = (let one : number u ∷ number v ∷ [] ≡ c ∷ [] = units ∙ one_unit-plain form c below in cc)

  pub stored-more : (xs old : List X) (cs : List ℕ) (at k : ℕ) (u : X) → at + k < length xs → k < length cs → number u ≡ get_or cs k 0 → map number (take (at + k) xs) ≡ map number (take at old) ++ take k cs
      → map number (take (at + (k + 1)) (set xs (at + k) u)) ≡ map number (take at old) ++ take (k + 1) cs
  stored-more xs old cs at k u space within is so_far =
      let next : at + (k + 1) ≡ at + k + 1 = omega arith in
      let before = map number (take at old) in
      ap (λ n. map number (take n (set xs (at + k) u))) next ∙ ap (map number) (take_more_set xs (at + k) u space) ∙ map-append number (take (at + k) xs) (u ∷ [])
      ∙ ap (λ us. us ++ number u ∷ []) so_far ∙ append_assoc before (take k cs) (number u ∷ []) ∙ ap (λ us. before ++ us) (ap (λ v. take k cs ++ v ∷ []) is ∙ sym (one_more cs k within))

  -- Of the units that were stored, the first are used.
  pub stored-prefix : (xs zs : List X) (cs : List ℕ) (at full m : ℕ) → at ≤ length xs → m ≤ full → map number (take (at + full) zs) ≡ map number (take at xs) ++ take full cs → map number (take (at + m) zs) ≡ map number (take at xs) ++ take m cs
  stored-prefix xs zs cs at full m space short stored =
      let ours = map number xs in
      let theirs = map number zs in
      let all : take (at + full) theirs ≡ take at ours ++ take full cs = take-map number (at + full) zs ∙ stored ∙ ap (λ us. us ++ take full cs) (sym (take-map number at xs)) in
      sym (take-map number (at + m) zs) ∙ compressed-lead ours theirs (take full cs) at full m (omega (arith, space, length-map xs number)) short all ∙ ap (λ us. take at ours ++ us) (take-take m full cs short)
      ∙ ap (λ us. us ++ take m cs) (take-map number at xs)
