-- Well-formed units that are split after a prefix: the characters of the prefix, and those of the rest.
use Rattle.std.proofs.Common.{◌≡◌, ℕ, suc, ◌+◌, ◌-◌, ◌<◌, ◌≤◌, List, [], ◌∷◌, ◌++◌, length, get_or, take, drop, refl, sym, ap, ◌∙◌, subst, arith, append_assoc, take-append-drop}
use Rattle.std.specs.Char.{IsScalar}
use Rattle.std.specs.List.{All}
use Rattle.std.proofs.lemmas.Grind.{get_or_default_zero}
use Rattle.std.proofs.lemmas.List.{drop-drop, length-take-le}
use Rattle.wide_forms.specs.EncodingForm.{EncodingForm, code_units, encode}
use Rattle.wide_forms.specs.Segmentation.{Char}
use Rattle.wide_forms.specs.Items.{IsWellFormed, characters, chars, items}
use Rattle.wide_forms.specs.Laws.Ends.{items-prefix_char}
use Rattle.wide_forms.specs.Laws.Forms.{Ranges, scalar_from}
use Rattle.wide_forms.specs.Laws.WellFormed.{well_formed-rest}
use Rattle.wide_from_units.proofs.ScalarTexts.{encode-narrow}

-- The characters of the units are `cs` and those of the rest.
pub record IsPrefixChars (form : EncodingForm) (us rest cs : List ℕ) : Type 0 where
  pub text : chars form us ≡ cs ++ chars form rest
  pub well_formed : IsWellFormed form rest

module _ (form : EncodingForm) where
  -- The prefix is one character.
  pub prefix_chars-one : (us rest : List ℕ) (c : ℕ) → IsWellFormed form us → items form us ≡ Char c ∷ items form rest → IsPrefixChars form us rest (c ∷ [])
  prefix_chars-one us rest c well e = record { text = ap characters e; well_formed = well_formed-rest form us rest well c e }

  -- The prefix is the units of some characters.
  prefix_chars-encode : (rest cs : List ℕ) → All IsScalar cs → IsWellFormed form (encode form cs ++ rest) → IsPrefixChars form (encode form cs ++ rest) rest cs
  prefix_chars-encode rest [] scalars well = record { text = refl; well_formed = well }
  prefix_chars-encode rest (c ∷ cs) scalars well =
      let joined : encode form (c ∷ cs) ++ rest ≡ code_units form c ++ (encode form cs ++ rest) = append_assoc (code_units form c) (encode form cs) rest in
      let first : items form (encode form (c ∷ cs) ++ rest) ≡ Char c ∷ items form (encode form cs ++ rest) = ap (items form) joined ∙ items-prefix_char form c (encode form cs ++ rest) (scalars 0 c (omega arith)) in
      let more = prefix_chars-encode rest cs (λ k d within. scalars (suc k) d (omega (arith, within))) (well_formed-rest form (encode form (c ∷ cs) ++ rest) (encode form cs ++ rest) well c first) in
      record { text = ap characters first ∙ ap (λ ds. c ∷ ds) more.text; well_formed = more.well_formed }

  -- The prefix is units that are a character each.
  pub prefix_chars-units : (us : List ℕ) (n : ℕ) → IsWellFormed form us → n ≤ length us → ((k : ℕ) → k < n → get_or (take n us) k 0 < 0x1_0000)
      → ((k : ℕ) → k < n → 0xd800 ≤ get_or (take n us) k 0 → 0xe000 ≤ get_or (take n us) k 0) → IsPrefixChars form us (drop n us) (take n us)
  prefix_chars-units us n well within below plain =
      let cs = take n us in
      let long : length cs ≡ n = length-take-le n us within in
      let same : encode form cs ≡ cs = encode-narrow form cs (λ k short. below k (omega (arith, long))) in
      let whole : encode form cs ++ drop n us ≡ us = ap (λ vs. vs ++ drop n us) same ∙ take-append-drop n us in
      let scalars : All IsScalar cs = λ k d short. scalar_from (get_or cs k d) (ranges-at k d (omega arith)) in
      subst (λ vs. IsPrefixChars form vs (drop n us) cs) whole (prefix_chars-encode (drop n us) cs scalars (subst (λ vs. IsWellFormed form vs) (sym whole) well))
    where
      ranges-at : (k d : ℕ) → k < n → Ranges (get_or (take n us) k d)
      ranges-at k d short =
          let read : get_or (take n us) k d ≡ get_or (take n us) k 0 = get_or_default_zero (take n us) k d (omega (arith, length-take-le n us within)) in
          record { below = omega (arith, read, below k short); no_surrogate = λ from. omega (arith, read, plain k short (omega (arith, read))) }

  -- Two adjacent prefixes are one, for a function of characters that can be computed chunk by chunk.
  pub prefix_chars-then : (make : List ℕ → List ℕ) → ((cs ds : List ℕ) → make (cs ++ ds) ≡ make cs ++ make ds) → (rest left all done more : List ℕ) → all ≡ done ++ make (chars form rest) → IsPrefixChars form rest left more → all ≡ (done ++ make more) ++ make (chars form left)
  prefix_chars-then make parts rest left all done more so_far prefix =
      so_far ∙ ap (λ cs. done ++ make cs) prefix.text ∙ ap (λ us. done ++ us) (parts more (chars form left)) ∙ sym (append_assoc done (make more) (make (chars form left)))

-- The rest of the units follows from its length.
pub left-beyond : {X : Type 0} (us rest left : List X) (n : ℕ) → length rest ≤ length us → rest ≡ drop (length us - length rest) us → left ≡ drop n rest → length left + n ≡ length rest → left ≡ drop (length us - length left) us
left-beyond us rest left n within is next shorter =
    let offset : length us - length rest + n ≡ length us - length left = omega arith in
    next ∙ ap (drop n) is ∙ drop-drop n (length us - length rest) us ∙ ap (λ m. drop m us) offset
