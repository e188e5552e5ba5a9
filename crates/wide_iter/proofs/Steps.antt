-- What a decoder yields, by the units that it read: `all` were left before the call, `rest` are left after it.
use Rattle.std.proofs.Common.{◌≡◌, ℕ, List, [], ◌∷◌, ◌++◌, sym, ◌∙◌, ap, append_assoc}
use Rattle.std.specs.Char.{IsScalar}
use Rattle.std.proofs.lemmas.List.{same_from_push}
use Rattle.wide_forms.specs.EncodingForm.{EncodingForm, Utf32, code_units, IsFault, IsPair, IsHighSurrogate, IsLowSurrogate}
use Rattle.wide_forms.specs.Segmentation.{Item, Char, Fault}
use Rattle.wide_forms.specs.Items.{items}
use Rattle.wide_forms.specs.Laws.Forms.{IsPair-parts}
use Rattle.wide_forms.specs.Laws.Items.{items-nil}
use Rattle.wide_forms.specs.Laws.Ends.{items-first_char, items-first_pair, items-first_fault, items-last_char, items-last_pair, items-last_fault}
use Rattle.wide_forms.specs.Laws.Utf32.{items32-append}

module _ (form : EncodingForm) (all rest : List ℕ) where
  pub none_left : all ≡ [] → rest ≡ [] → (items form all ≡ []) × (items form rest ≡ [])
  none_left e f = (ap (λ us. items form us) e ∙ items-nil form, ap (λ us. items form us) f ∙ items-nil form)

  -- What a call from the front yields: `mid` are left after the first unit was read.
  pub first_char : (u c : ℕ) → all ≡ u ∷ rest → IsScalar c × (code_units form c ≡ u ∷ []) → items form all ≡ Char c ∷ items form rest
  first_char u c e made = items-first_char form all rest u c e made.0 made.1

  pub first_pair : (mid : List ℕ) (h l c : ℕ) → all ≡ h ∷ mid → mid ≡ l ∷ rest → IsScalar c × (code_units form c ≡ h ∷ l ∷ []) → items form all ≡ Char c ∷ items form rest
  first_pair mid h l c e f made = items-first_pair form all rest h l c (e ∙ ap (λ us. h ∷ us) f) made.0 made.1

  pub first_no_high : (u reported : ℕ) → all ≡ u ∷ rest → IsFault form u → ¬ (IsHighSurrogate form u) → reported ≡ u → items form all ≡ Fault reported ∷ items form rest
  first_no_high u reported e fault apart same =
      items-first_fault form all rest u e fault (λ l back f pair. apart (IsPair-parts form u l pair).0) ∙ ap (λ v. Fault v ∷ items form rest) (sym same)

  pub first_at_end : (mid : List ℕ) (u reported : ℕ) → all ≡ u ∷ mid → mid ≡ [] → rest ≡ [] → IsFault form u → reported ≡ u → items form all ≡ Fault reported ∷ items form rest
  first_at_end mid u reported e f g fault same =
      let split : all ≡ u ∷ rest = e ∙ ap (λ us. u ∷ us) (f ∙ sym g) in
      items-first_fault form all rest u split fault (λ l back h pair. cc) ∙ ap (λ v. Fault v ∷ items form rest) (sym same)

  pub first_apart : (mid after : List ℕ) (u v reported : ℕ) → all ≡ u ∷ mid → mid ≡ v ∷ after → rest ≡ v ∷ after → IsFault form u → ¬ (IsPair form u v) → reported ≡ u → items form all ≡ Fault reported ∷ items form rest
  first_apart mid after u v reported e f g fault apart same =
      let split : all ≡ u ∷ rest = e ∙ ap (λ us. u ∷ us) (f ∙ sym g) in
      items-first_fault form all rest u split fault (λ l back h pair. let at : l ≡ v = cc in apart (rw at at pair)) ∙ ap (λ w. Fault w ∷ items form rest) (sym same)

  -- What a call from the back yields: `mid` are left after the last unit was read.
  pub last_char : (u c : ℕ) → all ≡ rest ++ u ∷ [] → IsScalar c × (code_units form c ≡ u ∷ []) → items form all ≡ items form rest ++ Char c ∷ []
  last_char u c e made = items-last_char form all rest u c e made.0 made.1

  pub last_pair : (mid : List ℕ) (h l c : ℕ) → all ≡ mid ++ l ∷ [] → mid ≡ rest ++ h ∷ [] → IsScalar c × (code_units form c ≡ h ∷ l ∷ []) → items form all ≡ items form rest ++ Char c ∷ []
  last_pair mid h l c e f made =
      items-last_pair form all rest h l c (e ∙ ap (λ us. us ++ l ∷ []) f ∙ append_assoc rest (h ∷ []) (l ∷ [])) made.0 made.1

  pub last_no_low : (u reported : ℕ) → all ≡ rest ++ u ∷ [] → IsFault form u → ¬ (IsLowSurrogate form u) → reported ≡ u → items form all ≡ items form rest ++ Fault reported ∷ []
  last_no_low u reported e fault apart same =
      items-last_fault form all rest u e fault (λ front h f pair. apart (IsPair-parts form h u pair).1) ∙ ap (λ v. items form rest ++ Fault v ∷ []) (sym same)

  pub last_at_front : (mid : List ℕ) (u reported : ℕ) → all ≡ mid ++ u ∷ [] → mid ≡ [] → rest ≡ [] → IsFault form u → reported ≡ u → items form all ≡ items form rest ++ Fault reported ∷ []
  last_at_front mid u reported e f g fault same =
      let split : all ≡ rest ++ u ∷ [] = e ∙ ap (λ us. us ++ u ∷ []) (f ∙ sym g) in
      items-last_fault form all rest u split fault (λ front h k pair. no_push front h (sym g ∙ k)) ∙ ap (λ v. items form rest ++ Fault v ∷ []) (sym same)
    where
      no_push : (front : List ℕ) (h : ℕ) → [] ≡ front ++ h ∷ [] → ⊥
      no_push [] h k = cc
      no_push (x ∷ front) h k = cc

  pub last_apart : (mid before : List ℕ) (u v reported : ℕ) → all ≡ mid ++ v ∷ [] → mid ≡ before ++ u ∷ [] → rest ≡ before ++ u ∷ [] → IsFault form v → ¬ (IsPair form u v) → reported ≡ v → items form all ≡ items form rest ++ Fault reported ∷ []
  last_apart mid before u v reported e f g fault apart same =
      let split : all ≡ rest ++ v ∷ [] = e ∙ ap (λ us. us ++ v ∷ []) (f ∙ sym g) in
      items-last_fault form all rest v split fault (λ front h k pair. let at : h ≡ u = same_end front before h u (sym k ∙ g) in apart (rw (← at) pair)) ∙ ap (λ w. items form rest ++ Fault w ∷ []) (sym same)
    where
      same_end : (xs ys : List ℕ) (x y : ℕ) → xs ++ x ∷ [] ≡ ys ++ y ∷ [] → x ≡ y
      same_end xs ys x y k = (same_from_push xs ys x y k).1

-- What a decoder of UTF-32 yields, by the item of the unit that was read.
module _ (all rest : List ℕ) (u : ℕ) (i : Item) (alone : items Utf32 (u ∷ []) ≡ i ∷ []) where
  pub first_unit32 : all ≡ u ∷ rest → items Utf32 all ≡ i ∷ items Utf32 rest
  first_unit32 e = ap (λ us. items Utf32 us) e ∙ items32-append (u ∷ []) rest ∙ ap (λ is. is ++ items Utf32 rest) alone

  pub last_unit32 : all ≡ rest ++ u ∷ [] → items Utf32 all ≡ items Utf32 rest ++ i ∷ []
  last_unit32 e = ap (λ us. items Utf32 us) e ∙ items32-append rest (u ∷ []) ∙ ap (λ is. items Utf32 rest ++ is) alone
