-- What remains of well-formed text after its first or its last character is removed, and bounds on the number of
-- characters.
use Rattle.std.proofs.Common.{◌≡◌, ◌≢◌, ℕ, nat_eq, if◌then◌else◌, eq-eqb, ◌+◌, ◌-◌, ◌≤◌, List, [], ◌∷◌, ◌++◌, inl, inr, sym, ◌∙◌, ap, subst, arith, length, length-append, length-drop, map, take, drop, slice_range}
use Rattle.std.proofs.lemmas.List.{append-nil, drop-drop, drop-take, take-take, take-map, drop-map, length-map, length-take-le, take-append-drop}
use Rattle.std.proofs.lemmas.List.Concat.{flat_map-append}
use Rattle.std.proofs.lemmas.Bool.{cases_eq}
use Rattle.std.proofs.lemmas.Bool.Decides.{nat_tests}
use Rattle.std.proofs.Math.Seq.{take-append_seam}
use Rattle.std.specs.List.{splice}
use Rattle.wide_forms.specs.EncodingForm.{EncodingForm, code_units, encode}
use Rattle.wide_forms.specs.Items.{chars, IsWellFormed}
use Rattle.wide_forms.specs.Offsets.{IsOffsetOf}
use Rattle.wide_forms.specs.Laws.Offsets.{IsOffsetOf-prefix, encode-chars, IsWellFormed-take, IsWellFormed-drop, IsBoundary-within}
use Rattle.wide_forms.specs.Laws.Splices.{chars-nil}

-- A string without a range is shorter, or the range was empty.
pub gone_or_same : {X : Type 0} (us left : List X) (from to total : ℕ) → length us ≡ total → from ≤ to → to ≤ total → left ≡ splice us from to [] → length left ≡ total → left ≡ us
gone_or_same us left from to total long forward within gone same =
    let first : length (take from us) ≡ from = length-take-le from us (omega arith) in
    let count : length left ≡ from + (length us - to) = ap length gone ∙ length-append (take from us) (drop to us) ∙ omega (arith, first, length-drop to us) in
    let empty : to ≡ from = omega arith in
    gone ∙ ap (λ n. take from us ++ drop n us) empty ∙ take-append-drop from us

push_not_nil : (cs : List ℕ) (c : ℕ) → cs ++ c ∷ [] ≡ [] → ⊥
push_not_nil [] c e = cc
push_not_nil (d ∷ cs) c e = cc

-- A slice without some elements at its beginning, or at its end.
module _ {X : Type 0} (xs : List X) (from to n : ℕ) (fits : from + n ≤ to) where
  slice-from : slice_range xs (from + n) to ≡ drop n (slice_range xs from to)
  slice-from =
      let count : to - from ≡ n + (to - (from + n)) = omega arith in
      sym (ap (λ k. drop n (take k (drop from xs))) count ∙ drop-take n (to - (from + n)) (drop from xs) ∙ ap (take (to - (from + n))) (drop-drop n from xs))

  slice-to : slice_range xs from (to - n) ≡ take (to - from - n) (slice_range xs from to)
  slice-to =
      let count : to - n - from ≡ to - from - n = omega arith in
      ap (λ k. take k (drop from xs)) count ∙ sym (take-take (to - from - n) (to - from) (drop from xs) (omega arith))

-- Well-formed units by their first character, and by their last one.
module _ (form : EncodingForm) (us : List ℕ) (well : IsWellFormed form us) (c : ℕ) (cs : List ℕ) where
  module _ (e : chars form us ≡ c ∷ cs) where
    first_offset : IsOffsetOf form us 1 (length (code_units form c))
    first_offset =
        let count : length (encode form (take 1 (chars form us))) ≡ length (code_units form c) = ap (λ ds. length (encode form (take 1 ds))) e ∙ ap length (append-nil (code_units form c)) in
        subst (λ n. IsOffsetOf form us 1 n) count (IsOffsetOf-prefix form us well 1)

    first_within : length (code_units form c) ≤ length us
    first_within = IsBoundary-within form us (length (code_units form c)) first_offset.boundary

    first_well_formed : IsWellFormed form (drop (length (code_units form c)) us)
    first_well_formed = IsWellFormed-drop form us well (length (code_units form c)) first_offset.boundary

    first_others : chars form (drop (length (code_units form c)) us) ≡ cs
    first_others = first_offset.rest ∙ ap (drop 1) e

  module _ (e : chars form us ≡ cs ++ c ∷ []) where
    last_long : length us ≡ length (encode form cs) + length (code_units form c)
    last_long =
        let joined : us ≡ encode form cs ++ (code_units form c ++ []) = sym (encode-chars form us well) ∙ ap (encode form) e ∙ flat_map-append (code_units form) cs (c ∷ []) in
        ap length joined ∙ length-append (encode form cs) (code_units form c ++ []) ∙ ap (λ us. length (encode form cs) + length us) (append-nil (code_units form c))

    last_offset : IsOffsetOf form us (length cs) (length us - length (code_units form c))
    last_offset =
        let prefix : take (length cs) (chars form us) ≡ cs = ap (take (length cs)) e ∙ take-append_seam cs (c ∷ []) in
        let count : length (encode form (take (length cs) (chars form us))) ≡ length us - length (code_units form c) = ap (λ ds. length (encode form ds)) prefix ∙ omega (arith, last_long) in
        subst (λ n. IsOffsetOf form us (length cs) n) count (IsOffsetOf-prefix form us well (length cs))

    last_within : length (code_units form c) ≤ length us
    last_within = omega (arith, last_long)

    last_well_formed : IsWellFormed form (take (length us - length (code_units form c)) us)
    last_well_formed = IsWellFormed-take form us well (length us - length (code_units form c)) last_offset.boundary

    last_others : chars form (take (length us - length (code_units form c)) us) ≡ cs
    last_others = last_offset.prefix ∙ ap (take (length cs)) e ∙ take-append_seam cs (c ∷ [])

-- The units from `prefix` up to `back` after a character is removed from them.
module _ {X : Type 0} (form : EncodingForm) (number : X → ℕ) (xs : List X) (prefix back : ℕ) (ordered : prefix ≤ back) (within : back ≤ length xs) (well : IsWellFormed form (map number (slice_range xs prefix back))) (c : ℕ) (cs : List ℕ) where
  abbrev us : List ℕ
  us = map number (slice_range xs prefix back)

  abbrev n : ℕ
  n = length (code_units form c)

  long : length us ≡ back - prefix
  long = length-map (slice_range xs prefix back) number ∙ length-take-le (back - prefix) (drop prefix xs) (omega (arith, length-drop prefix xs))

  module _ (e : chars form us ≡ c ∷ cs) where
    prefix_space : prefix + n ≤ back
    prefix_space = omega (arith, first_within form us well c cs e, long)

    from_front : map number (slice_range xs (prefix + n) back) ≡ drop n us
    from_front = ap (map number) (slice-from xs prefix back n prefix_space) ∙ sym (drop-map number n (slice_range xs prefix back))

    prefix_well_formed : IsWellFormed form (map number (slice_range xs (prefix + n) back))
    prefix_well_formed = subst (λ vs. IsWellFormed form vs) (sym from_front) (first_well_formed form us well c cs e)

    prefix_others : chars form (map number (slice_range xs (prefix + n) back)) ≡ cs
    prefix_others = ap (chars form) from_front ∙ first_others form us well c cs e

  module _ (e : chars form us ≡ cs ++ c ∷ []) where
    back_space : prefix + n ≤ back
    back_space = omega (arith, last_within form us well c cs e, long)

    to_back : map number (slice_range xs prefix (back - n)) ≡ take (length us - n) us
    to_back =
        ap (map number) (slice-to xs prefix back n back_space) ∙ sym (take-map number (back - prefix - n) (slice_range xs prefix back)) ∙ ap (λ k. take (k - n) us) (sym long)

    back_well_formed : IsWellFormed form (map number (slice_range xs prefix (back - n)))
    back_well_formed = subst (λ vs. IsWellFormed form vs) (sym to_back) (last_well_formed form us well c cs e)

    back_others : chars form (map number (slice_range xs prefix (back - n))) ≡ cs
    back_others = ap (chars form) to_back ∙ last_others form us well c cs e

-- What a drain reads of a string of `total` units, which may have lost the range.
module _ {X Y : Type 0} (xs : List X) (total : ℕ) (there gone : Y) where
  while_whole : length xs ≡ total → (if nat_eq (length xs) total then there else gone) ≡ there
  while_whole e = rw (eq-eqb (length xs) total e)

  once_gone : length xs ≢ total → (if nat_eq (length xs) total then there else gone) ≡ gone
  once_gone e = grind (arith, nat_tests)

-- The units that were not read yet; none once the range is removed.
abbrev pub left_of : {X : Type 0} → List X → ℕ → ℕ → ℕ → List X
left_of xs total prefix back = if nat_eq (length xs) total then slice_range xs prefix back else []

module _ {X : Type 0} (form : EncodingForm) (number : X → ℕ) (xs : List X) (total : ℕ) where
  module _ (prefix back : ℕ) where
    -- A character of `n` units was removed from the range, which now is from `first` up to `last` and has the
    -- characters `cs`.
    pub record IsTaken (n first last : ℕ) (cs : List ℕ) : Type 0 where
      pub fits : prefix + n ≤ back
      pub part : length xs ≡ total → IsWellFormed form (map number (slice_range xs first last))
      pub rest : chars form (map number (left_of xs total first last)) ≡ cs

    not_gone : (cs : List ℕ) → chars form (map number (left_of xs total prefix back)) ≡ cs → (cs ≡ [] → ⊥) → length xs ≡ total
    not_gone cs e some = elim (cases_eq (length xs) total) [
      | inl same ↦ same
      | inr other ↦ absurd (some (sym e ∙ ap (λ ys. chars form (map number ys)) (once_gone xs total (slice_range xs prefix back) [] other) ∙ chars-nil form))
    ]

    module _ (ordered : prefix ≤ back) (within : back ≤ total) (well : length xs ≡ total → IsWellFormed form (map number (slice_range xs prefix back))) (c : ℕ) (cs : List ℕ) (n : ℕ) (takes : n ≡ length (code_units form c)) where
      there : length xs ≡ total → (ds : List ℕ) → chars form (map number (left_of xs total prefix back)) ≡ ds → chars form (map number (slice_range xs prefix back)) ≡ ds
      there whole ds e = ap (λ ys. chars form (map number ys)) (sym (while_whole xs total (slice_range xs prefix back) [] whole)) ∙ e

      pub prefix_taken : chars form (map number (left_of xs total prefix back)) ≡ c ∷ cs → IsTaken n (prefix + n) back cs
      prefix_taken e =
          let whole : length xs ≡ total = not_gone (c ∷ cs) e (λ f. cc) in
          let within_xs : back ≤ length xs = omega arith in
          let e : chars form (map number (slice_range xs prefix back)) ≡ c ∷ cs = there whole (c ∷ cs) e in
          let fits = prefix_space form number xs prefix back ordered within_xs (well whole) c cs e in
          rw takes (record {
            fits = fits;
            part = λ _. prefix_well_formed form number xs prefix back ordered within_xs (well whole) c cs e;
            rest = ap (λ ys. chars form (map number ys)) (while_whole xs total (slice_range xs (prefix + length (code_units form c)) back) [] whole) ∙ prefix_others form number xs prefix back ordered within_xs (well whole) c cs e;
          })

      pub back_taken : chars form (map number (left_of xs total prefix back)) ≡ cs ++ c ∷ [] → IsTaken n prefix (back - n) cs
      back_taken e =
          let whole : length xs ≡ total = not_gone (cs ++ c ∷ []) e (λ f. push_not_nil cs c f) in
          let within_xs : back ≤ length xs = omega arith in
          let e : chars form (map number (slice_range xs prefix back)) ≡ cs ++ c ∷ [] = there whole (cs ++ c ∷ []) e in
          let fits = back_space form number xs prefix back ordered within_xs (well whole) c cs e in
          rw takes (record {
            fits = fits;
            part = λ _. back_well_formed form number xs prefix back ordered within_xs (well whole) c cs e;
            rest = ap (λ ys. chars form (map number ys)) (while_whole xs total (slice_range xs prefix (back - length (code_units form c))) [] whole) ∙ back_others form number xs prefix back ordered within_xs (well whole) c cs e;
          })
