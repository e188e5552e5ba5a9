-- The text of units in which the halves of a pair are joined.
use Rattle.std.proofs.Common.{◌≡◌, ℕ, ◌+◌, ◌-◌, ◌*◌, List, [], ◌∷◌, ◌++◌, sym, ap, ◌∙◌, subst, arith, append_assoc}
use Rattle.std.specs.Char.{IsScalar}
use Rattle.std.proofs.lemmas.List.{append-nil}
use Rattle.wide_forms.specs.EncodingForm.{Utf16, IsHighSurrogate, IsLowSurrogate, code_units}
use Rattle.wide_forms.specs.Items.{IsWellFormed}
use Rattle.wide_forms.specs.Utf8.{utf8, utf8_bytes}
use Rattle.wide_forms.specs.Laws.Ends.{IsCut-after, IsCut-before, IsWellFormed-code_units}
use Rattle.wide_forms.specs.Laws.Forms.{high_of, low_of, scalar_from, two_units}
use Rattle.wide_forms.specs.Laws.Items.{IsCut, items-code_units}
use Rattle.wide_unit.specs.CodePoints.{code_of}
use Rattle.std.specs.Prelude.{map}
use Rattle.wide_schemes.specs.Wtf8.{wtf8}
use Rattle.wide_schemes.specs.Wtf8Laws.{wtf8-append}

module _ (h l : ℕ) (high : IsHighSurrogate Utf16 h) (low : IsLowSurrogate Utf16 l) where
  -- The character of the pair.
  abbrev pub character : ℕ
  character = 0x1_0000 + ((h - 0xD800) * 0x400 + (l - 0xDC00))

  pub character-scalar : IsScalar character
  character-scalar = scalar_from character (record { below = omega (arith, high.0, high.1, low.0, low.1); no_surrogate = λ from. omega arith })

  pub character-units : code_units Utf16 character ≡ h ∷ l ∷ []
  character-units =
      let e : high_of character ≡ h = omega (arith, high.0, high.1, low.0, low.1) in
      let f : low_of character ≡ l = omega (arith, high.0, high.1, low.0, low.1) in
      two_units character (omega arith) ∙ ap (λ x. x ∷ low_of character ∷ []) e ∙ ap (λ x. h ∷ x ∷ []) f

  pair-well_formed : IsWellFormed Utf16 (h ∷ l ∷ [])
  pair-well_formed = subst (IsWellFormed Utf16) character-units (IsWellFormed-code_units Utf16 character character-scalar)

  pub pair-text : wtf8 (h ∷ l ∷ []) ≡ utf8_bytes character
  pair-text = ap wtf8 (sym character-units) ∙ ap (λ is. utf8 (map code_of is)) (items-code_units Utf16 character character-scalar) ∙ append-nil (utf8_bytes character)

  cut-before : (us vs : List ℕ) → IsCut Utf16 us (h ∷ l ∷ vs)
  cut-before us vs prefix back g m e f pair =
      let same : h ≡ m = cc f in
      IsCut-before Utf16 us (h ∷ l ∷ []) pair-well_formed prefix (l ∷ []) g m e (ap (λ x. x ∷ l ∷ []) same) pair

  -- The text of a pair, and of what precedes and follows it.
  pub wtf8-pair : (us vs : List ℕ) → wtf8 ((us ++ h ∷ []) ++ l ∷ vs) ≡ wtf8 us ++ (utf8_bytes character ++ wtf8 vs)
  wtf8-pair us vs =
      ap wtf8 (append_assoc us (h ∷ []) (l ∷ vs)) ∙ wtf8-append us (h ∷ l ∷ vs) (cut-before us vs)
      ∙ ap (λ bs. wtf8 us ++ bs) (wtf8-append (h ∷ l ∷ []) vs (IsCut-after Utf16 (h ∷ l ∷ []) vs pair-well_formed) ∙ ap (λ bs. bs ++ wtf8 vs) pair-text)
