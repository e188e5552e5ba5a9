-- Well-formed units that are split after a prefix: the UTF-8 of the prefix, and that of the rest.
use Rattle.std.proofs.Common.{◌≡◌, ℕ, ◌<◌, ◌≤◌, inl, inr, Option, None, Some, List, [], ◌∷◌, ◌++◌, length, take, drop, refl, sym, ap, ◌∙◌, subst, arith, length-drop, length-take, take-append-drop}
use Rattle.std.specs.Prelude.{map}
use Rattle.std.specs.Char.{IsScalar}
use Rattle.std.specs.List.{All}
use Rattle.std.proofs.lemmas.Bool.{cases_lt}
use Rattle.std.proofs.lemmas.List.{drop-map, length-take-le, take-take, take_all}
use Rattle.std.proofs.lemmas.List.Concat.{flat_map-append}
use Rattle.wide_forms.specs.EncodingForm.{EncodingForm, Utf16, encode}
use Rattle.wide_forms.specs.Items.{items, IsBoundary, IsWellFormed, chars}
use Rattle.wide_forms.specs.Offsets.{chars_before}
use Rattle.wide_forms.specs.Utf8.{utf8, utf8_bytes}
use Rattle.wide_forms.specs.Laws.Boundaries.{IsBoundary-of_cut}
use Rattle.wide_forms.specs.Laws.Ends.{IsCut-after, items-prefix_high, items-prefix_low}
use Rattle.wide_forms.specs.Laws.Offsets.{IsOffsetOf-boundary, IsWellFormed-drop, IsWellFormed-encode, chars-encode}
use Rattle.wide_forms.specs.Laws.WellFormed.{no_first_fault}
use Rattle.wide_utf16_to_utf8.specs.Encoded.{AreCutShort, BeginsWithFault, EncodedUnits, StopsBefore}
use Rattle.wide_utf16_to_utf8.proofs.Lanes.{cut-length, fault-append}

-- The UTF-8 of the units is `bytes` and the UTF-8 of the units from `offset` on, which are well formed.
pub record IsPrefixText (form : EncodingForm) (us : List ℕ) (offset : ℕ) (bytes : List ℕ) : Type 0 where
  pub text : utf8 (chars form us) ≡ bytes ++ utf8 (chars form (drop offset us))
  pub rest : IsWellFormed form (drop offset us)

module _ (form : EncodingForm) (us : List ℕ) (well : IsWellFormed form us) where
  -- The units can be split at each boundary.
  pub prefix_text-boundary : (offset : ℕ) → IsBoundary form us offset → IsPrefixText form us offset (utf8 (chars form (take offset us)))
  prefix_text-boundary offset at =
      let cs = chars form us in
      let i = chars_before form us offset in
      let p = IsOffsetOf-boundary form us well offset at in
      record {
        text = ap utf8 (sym (take-append-drop i cs)) ∙ flat_map-append utf8_bytes (take i cs) (drop i cs) ∙ ap (λ ds. utf8 ds ++ utf8 (drop i cs)) (sym p.prefix) ∙ ap (λ ds. utf8 (chars form (take offset us)) ++ utf8 ds) (sym p.rest);
        rest = IsWellFormed-drop form us well offset at;
      }

  -- The units can be split after those that encode some characters.
  pub prefix_text-encode : (n : ℕ) (cs bytes : List ℕ) → n ≤ length us → All IsScalar cs → take n us ≡ encode form cs → bytes ≡ utf8 cs → IsPrefixText form us n bytes
  prefix_text-encode n cs bytes within scalars prefix text =
      let prefix_well : IsWellFormed form (take n us) = subst (λ vs. IsWellFormed form vs) (sym prefix) (IsWellFormed-encode form cs scalars) in
      let cut = IsBoundary-of_cut form (take n us) (drop n us) (IsCut-after form (take n us) (drop n us) prefix_well) in
      let at : IsBoundary form us n = subst (λ vs. IsBoundary form vs n) (take-append-drop n us) (subst (λ m. IsBoundary form (take n us ++ drop n us) m) (length-take-le n us within) cut) in
      let same : utf8 (chars form (take n us)) ≡ bytes = ap (λ vs. utf8 (chars form vs)) prefix ∙ ap utf8 (chars-encode form cs scalars) ∙ sym text in
      subst (λ bs. IsPrefixText form us n bs) same (prefix_text-boundary n at)

-- The UTF-8 of units of any type whose numbers are `us`.
prefix_text-numbers : {X : Type 0} {kind form : EncodingForm} (number : X → ℕ) (xs : List X) {us bytes : List ℕ} (n : ℕ) → kind ≡ form → us ≡ map number xs → utf8 (chars kind us) ≡ bytes ++ utf8 (chars kind (drop n us)) → IsWellFormed kind (drop n us)
    → IsPrefixText form (map number xs) n bytes
prefix_text-numbers {kind} number xs {bytes} n same_form same text rest =
    subst (λ form. IsPrefixText form (map number xs) n bytes) same_form (subst (λ vs. IsPrefixText kind vs n bytes) same (record { text = text; rest = rest }))

module _ {X : Type 0} {kind form : EncodingForm} (number : X → ℕ) (xs : List X) {us : List ℕ} (bytes : List ℕ) (n : ℕ) (same_form : kind ≡ form) (same : us ≡ map number xs) (text : utf8 (chars kind us) ≡ bytes ++ utf8 (chars kind (drop n us)))
    (rest : IsWellFormed kind (drop n us)) where
  pub text-numbers : utf8 (chars form (map number xs)) ≡ bytes ++ utf8 (chars form (map number (drop n xs)))
  text-numbers = (prefix_text-numbers number xs n same_form same text rest).text ∙ ap (λ vs. bytes ++ utf8 (chars form vs)) (drop-map number n xs)

  pub rest-numbers : IsWellFormed form (map number (drop n xs))
  rest-numbers = subst (λ vs. IsWellFormed form vs) (drop-map number n xs) (prefix_text-numbers number xs n same_form same text rest).rest

-- What `EncodedUnits` says of well-formed 16-bit units: they can be split there.
pub prefix_text-units : (us : List ℕ) (n count : ℕ) (bytes : List ℕ) → IsWellFormed Utf16 us → n ≤ count → count ≤ length us → EncodedUnits (take n (take count us)) [] bytes → IsPrefixText Utf16 us n bytes
prefix_text-units us n count bytes well short within e = prefix_text-encode Utf16 us well n e.cs bytes (omega arith) e.scalars (sym (take-take n count us short) ∙ e.units) e.text

-- Well-formed units do not begin with a fault.
no_fault-first : (us : List ℕ) (u : ℕ) → IsWellFormed Utf16 us → BeginsWithFault us u → ⊥
no_fault-first us u well (tail, same, inl low) = no_first_fault Utf16 us tail well u (ap (λ vs. items Utf16 vs) same ∙ items-prefix_low Utf16 u tail low)
no_fault-first us u well (tail, same, inr (high, l, back, is_tail, apart)) =
    no_first_fault Utf16 us tail well u (ap (λ vs. items Utf16 vs) same ∙ items-prefix_high Utf16 u tail high (λ m rest e low. let f : l ≡ m = cc in apart (rw f low)))

no_half-alone : (us : List ℕ) → IsWellFormed Utf16 us → 0 < length us → AreCutShort us → ⊥
no_half-alone [] well some cut = omega arith
no_half-alone (u ∷ []) well some cut = no_first_fault Utf16 (u ∷ []) [] well u (items-prefix_high Utf16 u [] cut (λ l back e low. cc))
no_half-alone (u ∷ v ∷ us) well some cut = cut

-- Encoding reads at least one of some well-formed units, unless the only unit that was given was split from others.
pub some-encoded : (us : List ℕ) (n count : ℕ) (fault : Option ℕ) → IsWellFormed Utf16 us → count ≤ length us → (count < 2 → count ≡ length us) → StopsBefore (drop n (take count us)) fault → 0 < length us → 0 < n
some-encoded us n count fault well within all stop some = elim (cases_lt 0 n) [ inl more ↦ more | inr none ↦ absurd (nothing fault (subst (λ m. StopsBefore (drop m (take count us)) fault) {x = n} {y = 0} (omega arith) stop)) ]
  where
    nothing : (fault : Option ℕ) → StopsBefore (take count us) fault → ⊥
    nothing (Some u) begins = no_fault-first us u well (subst (λ vs. BeginsWithFault vs u) (take-append-drop count us) (fault-append (drop count us) begins))
    nothing None cut =
        let whole : take count us ≡ us = take_all count us (omega (arith, all (omega (arith, cut-length (take count us) cut, length-take count us)))) in
        no_half-alone us well some (subst (λ vs. AreCutShort vs) whole cut)

-- Units that are encoded to their end.
module _ (us : List ℕ) (n : ℕ) (bytes : List ℕ) (e : EncodedUnits (take n us) [] bytes) where
  module _ (all : n ≡ length us) where
    the_units : encode Utf16 e.cs ≡ us
    the_units = sym e.units ∙ take_all n us (omega (arith, all))

    pub whole-valid : IsWellFormed Utf16 us
    whole-valid = subst (λ vs. IsWellFormed Utf16 vs) the_units (IsWellFormed-encode Utf16 e.cs e.scalars)

    pub whole-text : bytes ≡ utf8 (chars Utf16 us)
    whole-text = e.text ∙ ap utf8 (sym (chars-encode Utf16 e.cs e.scalars)) ∙ ap (λ vs. utf8 (chars Utf16 vs)) the_units

  -- Well-formed units are encoded to their end, wherever encoding stopped.
  pub stop-end : (fault : Option ℕ) → IsWellFormed Utf16 us → n ≤ length us → StopsBefore (drop n us) fault → n ≡ length us
  stop-end fault well within stop =
      let rest = drop n us in
      let rest_well = (prefix_text-encode Utf16 us well n e.cs bytes within e.scalars e.units e.text).rest in
      let stop_all : StopsBefore (take (length rest) rest) fault = subst (λ vs. StopsBefore vs fault) (sym (take_all (length rest) rest (omega arith))) stop in
      elim (cases_lt 0 (length rest)) [ inl more ↦ absurd (omega (arith, some-encoded rest 0 (length rest) fault rest_well (omega arith) (λ few. refl) stop_all more)) | inr none ↦ omega (arith, none, length-drop n us, within) ]
