-- The greatest number of lines in a text, and that each begins between two items.
use Rattle.std.proofs.Common.{◌≡◌, ℕ, ◌+◌, ◌≤◌, Bool, true, false, List, [], ◌∷◌, ◌++◌, refl, sym, ◌∙◌, ap, subst, arith, length, length-append, append_assoc, cond}
use Rattle.std.specs.Prelude.{map}
use Rattle.std.specs.List.{All, slice_split, onto_first}
use Rattle.std.proofs.lemmas.Bool.{eqb-true}
use Rattle.std.proofs.lemmas.List.{length-map}
use Rattle.std.proofs.lemmas.List.Elements.{All-nil, All-cons, All-head, All-tail}
use Rattle.wide_forms.specs.EncodingForm.{EncodingForm, code_units}
use Rattle.wide_forms.specs.Segmentation.{Item, Char, Fault, units_of, item_units}
use Rattle.wide_forms.specs.Items.{items, IsBoundary, IsWellFormed}
use Rattle.wide_forms.specs.Offsets.{IsCharBoundary}
use Rattle.wide_forms.specs.Lines.{line_feed, is_line_feed, without_return, lines_of_substrings, lines_of, placed_substrings, placed_lines}
use Rattle.wide_forms.specs.Laws.Boundaries.{units_of-append}
use Rattle.wide_forms.specs.Laws.Items.{units_of-items}
use Rattle.wide_forms.specs.Laws.Forms.{some_units}
use Rattle.wide_forms.specs.Laws.Lines.{one_feed, substrings-some}
use Rattle.wide_unit.proofs.CharBoundaries.{IsCharBoundary-of}

-- The fragments with a line feed between them.
abbrev joined : List (List Item) → List Item
joined [] = []
joined (p ∷ []) = p
joined (p ∷ q ∷ ps) = p ++ Char line_feed ∷ joined (q ∷ ps)

-- An offset at which an item of the list begins, or the end.
abbrev Begins : EncodingForm → List Item → ℕ → Type 0
Begins form is offset = (prefix back : List Item) × (is ≡ prefix ++ back) × (length (units_of form prefix) ≡ offset)

-- ---- the fragments are those items

joined-first : (i : Item) (ps : List (List Item)) (is : List Item) → (ps ≡ [] → ⊥) → joined ps ≡ is → joined (onto_first i ps) ≡ i ∷ is
joined-first i [] is some e = absurd (some refl)
joined-first i (p ∷ []) is some e = ap (λ js. i ∷ js) e
joined-first i (p ∷ q ∷ ps) is some e = ap (λ js. i ∷ js) e

joined-feed : (ps : List (List Item)) (is : List Item) → (ps ≡ [] → ⊥) → joined ps ≡ is → joined ([] ∷ ps) ≡ Char line_feed ∷ is
joined-feed [] is some e = absurd (some refl)
joined-feed (p ∷ ps) is some e = ap (λ js. Char line_feed ∷ js) e

joined-step : (i : Item) (b : Bool) (is : List Item) → is_line_feed i ≡ b → joined (slice_split is_line_feed is) ≡ is → joined (cond b ([] ∷ slice_split is_line_feed is) (onto_first i (slice_split is_line_feed is))) ≡ i ∷ is
joined-step i false is at e = joined-first i (slice_split is_line_feed is) is (substrings-some is) e
joined-step (Fault u) true is at e = cc
joined-step (Char c) true is at e = joined-feed (slice_split is_line_feed is) is (substrings-some is) e ∙ ap (λ d. Char d ∷ is) (sym (eqb-true c line_feed at))

joined-split : (is : List Item) → joined (slice_split is_line_feed is) ≡ is
joined-split [] = refl
joined-split (i ∷ is) = joined-step i (is_line_feed i) is refl (joined-split is)

-- ---- counts

lines-within : (ps : List (List Item)) → length (lines_of_substrings ps) ≤ length (joined ps)
lines-within [] = omega arith
lines-within ([] ∷ []) = omega arith
lines-within ((i ∷ is) ∷ []) = omega arith
lines-within (p ∷ q ∷ ps) = omega (arith, lines-within (q ∷ ps), length-append p (Char line_feed ∷ joined (q ∷ ps)))

placed-within : (form : EncodingForm) (offset : ℕ) (ps : List (List Item)) → length (placed_substrings form offset ps) ≤ length (joined ps)
placed-within form offset [] = omega arith
placed-within form offset ([] ∷ []) = omega arith
placed-within form offset ((i ∷ is) ∷ []) = omega arith
placed-within form offset (p ∷ q ∷ ps) =
    omega (arith, placed-within form (offset + (length (units_of form p) + 1)) (q ∷ ps), length-append p (Char line_feed ∷ joined (q ∷ ps)))

some_of_item : (form : EncodingForm) (i : Item) → 1 ≤ length (item_units form i)
some_of_item form (Char c) = some_units form c
some_of_item form (Fault u) = omega arith

items-within : (form : EncodingForm) (is : List Item) → length is ≤ length (units_of form is)
items-within form [] = omega arith
items-within form (i ∷ is) = omega (arith, some_of_item form i, items-within form is, length-append (item_units form i) (units_of form is))

module _ {C : Type 0} (form : EncodingForm) (number : C → ℕ) (us : List C) where
  all_items : length (items form (map number us)) ≤ length us
  all_items = omega (arith, items-within form (items form (map number us)), ap length (units_of-items form (map number us)), length-map us number)

  pub lines-at_most : length (lines_of (items form (map number us))) ≤ length us
  lines-at_most =
      let is = items form (map number us) in
      omega (arith, all_items, lines-within (slice_split is_line_feed is), ap length (joined-split is))

  pub placed-at_most : (offset : ℕ) → length (placed_lines form offset (items form (map number us))) ≤ length us
  placed-at_most offset =
      let is = items form (map number us) in
      omega (arith, all_items, placed-within form offset (slice_split is_line_feed is), ap length (joined-split is))

-- ---- offsets

after_feed : (form : EncodingForm) (prefix p : List Item) → length (units_of form (prefix ++ (p ++ Char line_feed ∷ []))) ≡ length (units_of form prefix) + (length (units_of form p) + 1)
after_feed form prefix p =
    let feed : List Item = Char line_feed ∷ [] in
    omega (
      arith,
      ap length (units_of-append form prefix (p ++ feed)),
      length-append (units_of form prefix) (units_of form (p ++ feed)),
      ap length (units_of-append form p feed),
      length-append (units_of form p) (units_of form feed),
      length-append (code_units form line_feed) [],
      ap length (one_feed form),
    )

begins : (form : EncodingForm) (whole prefix : List Item) (ps : List (List Item)) → whole ≡ prefix ++ joined ps → All (λ line. Begins form whole line.0) (placed_substrings form (length (units_of form prefix)) ps)
begins form whole prefix [] e = All-nil (λ line. Begins form whole line.0)
begins form whole prefix ([] ∷ []) e = All-nil (λ line. Begins form whole line.0)
begins form whole prefix ((i ∷ is) ∷ []) e =
    All-cons (λ line. Begins form whole line.0) (length (units_of form prefix), i ∷ is) [] (prefix, i ∷ is, e, refl) (All-nil (λ line. Begins form whole line.0))
begins form whole prefix (p ∷ q ∷ ps) e =
    let offset = length (units_of form prefix) in
    let feed : List Item = Char line_feed ∷ [] in
    let more : whole ≡ (prefix ++ (p ++ feed)) ++ joined (q ∷ ps) =
    e ∙ ap (λ is. prefix ++ is) (sym (append_assoc p feed (joined (q ∷ ps)))) ∙ sym (append_assoc prefix (p ++ feed) (joined (q ∷ ps))) in
    All-cons (λ line. Begins form whole line.0) (offset, without_return p) (placed_substrings form (offset + (length (units_of form p) + 1)) (q ∷ ps)) (prefix, joined (p ∷ q ∷ ps), e, refl)
    (subst (λ n. All (λ line. Begins form whole line.0) (placed_substrings form n (q ∷ ps))) (after_feed form prefix p) (begins form whole (prefix ++ (p ++ feed)) (q ∷ ps) more))

pub IsBoundary-lines : (form : EncodingForm) (us : List ℕ) → All (λ line. IsBoundary form us line.0) (placed_lines form 0 (items form us))
IsBoundary-lines form us = begins form (items form us) [] (slice_split is_line_feed (items form us)) (sym (joined-split (items form us)))

-- In well-formed units, each line begins at a character boundary.
each-char_boundary : (form : EncodingForm) (us : List ℕ) → IsWellFormed form us → (lines : List (ℕ × List Item)) → All (λ line. IsBoundary form us line.0) lines → All (λ line. IsCharBoundary form us line.0) lines
each-char_boundary form us well [] all = All-nil (λ line. IsCharBoundary form us line.0)
each-char_boundary form us well (line ∷ lines) all =
    All-cons (λ line. IsCharBoundary form us line.0) line lines (IsCharBoundary-of form us line.0 well (All-head (λ line. IsBoundary form us line.0) line lines all))
    (each-char_boundary form us well lines (All-tail (λ line. IsBoundary form us line.0) line lines all))

pub IsCharBoundary-lines : (form : EncodingForm) (us : List ℕ) → IsWellFormed form us → All (λ line. IsCharBoundary form us line.0) (placed_lines form 0 (items form us))
IsCharBoundary-lines form us well = each-char_boundary form us well (placed_lines form 0 (items form us)) (IsBoundary-lines form us)
