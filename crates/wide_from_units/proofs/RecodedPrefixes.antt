-- Well-formed units that are split after a prefix: the prefix in another encoding form, and the rest.
use Rattle.std.proofs.Common.{◌≡◌, ℕ, ◌+◌, ◌-◌, ◌<◌, ◌≤◌, List, [], ◌∷◌, ◌++◌, length, get_or, map, take, drop, sym, ap, ◌∙◌, subst, arith, length-drop}
use Rattle.std.proofs.lemmas.List.{append-nil, drop-drop, drop-map, get_or-map, length-map, length-take-le, take-map, take_rest}
use Rattle.std.proofs.lemmas.List.Concat.{flat_map-append}
use Rattle.wide_forms.specs.EncodingForm.{EncodingForm, code_units, encode}
use Rattle.wide_forms.specs.Segmentation.{Char}
use Rattle.wide_forms.specs.Items.{IsWellFormed, chars, items}
use Rattle.wide_from_units.proofs.ScalarPrefixes.{IsPrefixChars, prefix_chars-one, prefix_chars-then, prefix_chars-units}
use Rattle.wide_from_units.proofs.ScalarTexts.{encode-narrow}

-- The number of the unit at an index.
pub number-at : {X : Type 0} (number : X → ℕ) (xs : List X) (k : ℕ) (x : X) → k < length xs → x ≡ get_or xs k x → number x ≡ get_or (map number xs) k 0
number-at number xs k x within is = ap number is ∙ sym (get_or-map number xs k x 0 within)

-- Units of type `X` in the form `from`, and the same text in the form `to`.
module _ {X : Type 0} (number : X → ℕ) (from to : EncodingForm) where
  -- `all` is what was converted of a prefix, and the conversion of the rest.
  pub record IsRecoded (all made : List ℕ) (rest : List X) : Type 0 where
    pub units : all ≡ made ++ encode to (chars from (map number rest))
    pub well_formed : IsWellFormed from (map number rest)

  recoded-then : (all made after more : List ℕ) (rest left : List X) → IsRecoded all made rest → IsPrefixChars from (map number rest) (map number left) more → after ≡ made ++ encode to more → IsRecoded all after left
  recoded-then all made after more rest left so_far prefix stored = record {
    units = prefix_chars-then from (encode to) (flat_map-append (code_units to)) (map number rest) (map number left) all made more so_far.units prefix ∙ ap (λ us. us ++ encode to (chars from (map number left))) (sym stored);
    well_formed = prefix.well_formed;
  }

  -- One character more was converted.
  pub recoded-one : (all made after : List ℕ) (rest left : List X) (c : ℕ) → IsRecoded all made rest → items from (map number rest) ≡ Char c ∷ items from (map number left) → after ≡ made ++ code_units to c → IsRecoded all after left
  recoded-one all made after rest left c so_far first stored =
      recoded-then all made after (c ∷ []) rest left so_far (prefix_chars-one from (map number rest) (map number left) c so_far.well_formed first) (stored ∙ ap (λ us. made ++ us) (sym (append-nil (code_units to c))))

  -- A block of sixteen units that are a character each was converted.
  pub recoded-block : (all made after : List ℕ) (xs : List X) (at n : ℕ) → IsRecoded all made (drop at xs) → at + 16 ≤ length xs → n ≡ 16 → ((k : ℕ) → k < 16 → get_or (map number (take n (drop at xs))) k 0 < 0x1_0000)
      → ((k : ℕ) → k < 16 → 0xd800 ≤ get_or (map number (take n (drop at xs))) k 0 → 0xe000 ≤ get_or (map number (take n (drop at xs))) k 0) → after ≡ made ++ map number (take n (drop at xs)) → IsRecoded all after (drop (at + 16) xs)
  recoded-block all made after xs at n so_far within sixteen below plain stored =
      let us = map number (drop at xs) in
      let block : take n us ≡ map number (take n (drop at xs)) = take-map number n (drop at xs) in
      let offset : at + n ≡ at + 16 = omega arith in
      let rest : drop n us ≡ map number (drop (at + 16) xs) = drop-map number n (drop at xs) ∙ ap (map number) (drop-drop n at xs ∙ ap (λ m. drop m xs) offset) in
      let long : length us ≡ length xs - at = length-map (drop at xs) number ∙ length-drop at xs in
      let narrow : (k : ℕ) → k < n → get_or (take n us) k 0 < 0x1_0000 = λ k short. subst (λ vs. get_or vs k 0 < 0x1_0000) (sym block) (below k (omega arith)) in
      let split : IsPrefixChars from us (drop n us) (take n us) =
      prefix_chars-units from us n so_far.well_formed (omega (arith, long)) narrow (λ k short. subst (λ vs. 0xd800 ≤ get_or vs k 0 → 0xe000 ≤ get_or vs k 0) (sym block) (plain k (omega arith))) in
      let prefix : IsPrefixChars from us (map number (drop (at + 16) xs)) (take n us) = subst (λ vs. IsPrefixChars from us vs (take n us)) rest split in
      let same : encode to (take n us) ≡ take n us = encode-narrow to (take n us) (λ k short. narrow k (omega (arith, length-take-le n us (omega (arith, long))))) in
      recoded-then all made after (take n us) (drop at xs) (drop (at + 16) xs) so_far prefix (stored ∙ ap (λ vs. made ++ vs) (sym (same ∙ block)))

  -- The units after a prefix, as a slice of the units, are well formed.
  pub well_formed-beyond : (xs : List X) (at : ℕ) → IsWellFormed from (map number (drop at xs)) → IsWellFormed from (map number (take (length xs - at) (drop at xs)))
  well_formed-beyond xs at well = subst (λ ys. IsWellFormed from (map number ys)) (sym (take_rest xs at)) well

  -- A prefix of the slice after a prefix was converted.
  pub recoded-beyond : (all made after : List ℕ) (xs : List X) (at n : ℕ) → all ≡ made ++ encode to (chars from (map number (drop at xs)))
      → IsRecoded (made ++ encode to (chars from (map number (take (length xs - at) (drop at xs))))) after (drop n (take (length xs - at) (drop at xs))) → IsRecoded all after (drop (at + n) xs)
  recoded-beyond all made after xs at n so_far prefix =
      let beyond = take_rest xs at in
      let rest : drop n (take (length xs - at) (drop at xs)) ≡ drop (at + n) xs = ap (drop n) beyond ∙ drop-drop n at xs in
      subst (λ ys. IsRecoded all after ys) rest (record { units = so_far ∙ ap (λ ys. made ++ encode to (chars from (map number ys))) (sym beyond) ∙ prefix.units; well_formed = prefix.well_formed })
