-- The character that begins at an offset in units, by the first item from there on.
use Rattle.std.proofs.Common.{◌≡◌, ℕ, ◌+◌, ◌-◌, ◌<◌, ◌≤◌, List, ◌∷◌, ◌++◌, inl, inr, length, map, take, drop, slice_range, refl, sym, ap, ◌∙◌, subst, arith, length-drop}
use Rattle.std.proofs.lemmas.List.{drop-drop, take-map, take_at}
use Rattle.wide_forms.specs.EncodingForm.{EncodingForm, code_units}
use Rattle.wide_forms.specs.Segmentation.{Char, units_of}
use Rattle.wide_forms.specs.Items.{items, IsWellFormed}
use Rattle.wide_forms.specs.Laws.Forms.{code_units-cases}
use Rattle.wide_forms.specs.Laws.Items.{units_of-items}
use Rattle.wide_forms.specs.Laws.WellFormed.{well_formed-rest}

few_units : (form : EncodingForm) (c : ℕ) → length (code_units form c) ≤ 2
few_units form c = elim (code_units-cases form c) [
  | inl one ↦ rw one.1 (omega arith)
  | inr two ↦ rw two.2 (omega arith)
]

-- Decoding at the offset returned the character, and the units after it.
module _ {X : Type 0} (form : EncodingForm) (number : X → ℕ) (us rest : List X) (at c : ℕ) (below : at < length us)
    (is : items form (map number (drop at us)) ≡ Char c ∷ items form (map number rest)) (left : rest ≡ drop (length (code_units form c)) (drop at us)) (long : length rest + length (code_units form c) ≡ length (drop at us)) where
  abbrev next : ℕ
  next = length us - length rest

  next-is : next ≡ at + length (code_units form c)
  next-is = omega (arith, length-drop at us, long)

  pub char-near : next ≤ at + 2
  char-near = omega (arith, next-is, few_units form c)

  beyond : drop next us ≡ rest
  beyond = ap (λ n. drop n us) next-is ∙ sym (drop-drop (length (code_units form c)) at us) ∙ sym left

  pub char-units : map number (slice_range us at next) ≡ code_units form c
  char-units =
      let joined : map number (drop at us) ≡ code_units form c ++ map number rest =
      sym (units_of-items form (map number (drop at us))) ∙ ap (λ is. units_of form is) is ∙ ap (λ xs. code_units form c ++ xs) (units_of-items form (map number rest)) in
      let count : next - at ≡ length (code_units form c) = omega (arith, next-is) in
      ap (λ n. map number (take n (drop at us))) count ∙ sym (take-map number (length (code_units form c)) (drop at us))
      ∙ ap (take (length (code_units form c))) joined ∙ take_at (code_units form c) (map number rest) (length (code_units form c)) refl

  pub char-rest : IsWellFormed form (map number (drop at us)) → IsWellFormed form (map number (drop next us))
  char-rest well = subst (λ xs. IsWellFormed form (map number xs)) (sym beyond) (well_formed-rest form (map number (drop at us)) (map number rest) well c is)
