-- The first line of a text, and the lines after it.
use Rattle.std.proofs.Common.{◌≡◌, ◌≢◌, ℕ, ◌+◌, ◌-◌, length, length-append, Bool, true, false, List, [], ◌∷◌, ◌++◌, refl, sym, ◌∙◌, ap, subst, arith, eqb, cond}
use Rattle.std.specs.List.{All, Contains, slice_split, onto_first}
use Rattle.std.proofs.lemmas.List.{append-nil}
use Rattle.std.proofs.lemmas.Bool.{eqb-true}
use Rattle.std.proofs.lemmas.List.Elements.{Contains-append_left, Contains-append_right, All-nil, All-cons, All-head, All-tail}
use Rattle.std.proofs.lemmas.List.Splits.{slice_split_none, slice_split_at}
use Rattle.wide_forms.specs.EncodingForm.{EncodingForm, Utf16, Utf32, code_units, IsPair}
use Rattle.wide_forms.specs.Segmentation.{Item, Char, Fault, units_of}
use Rattle.wide_forms.specs.Items.{items, IsWellFormed}
use Rattle.wide_forms.specs.Lines.{line_feed, carriage_return, is_line_feed, without_return, lines_of_substrings, lines_of, placed_substrings, placed_lines, TakesLine, IsFirstLine}
use Rattle.wide_forms.specs.Laws.Forms.{IsPair-parts}
use Rattle.wide_forms.specs.Laws.Items.{IsCut, items-append, items-nil, units_of-items}
use Rattle.wide_forms.specs.Laws.Ends.{items-prefix_char, items-back_char}
use Rattle.wide_forms.specs.Laws.Boundaries.{units_of-append}

-- No items have no lines.
pub lines-nil : lines_of [] ≡ []
lines-nil = refl

one_substring : (is : List Item) → is ≢ [] → lines_of_substrings (is ∷ []) ≡ is ∷ []
one_substring [] some = absurd (some refl)
one_substring (i ∷ is) some = refl

-- A text without a line feed is one line.
pub lines-unended : (is : List Item) → is ≢ [] → All (λ i. is_line_feed i ≡ false) is → lines_of is ≡ is ∷ []
lines-unended is some none = ap lines_of_substrings (slice_split_none is_line_feed is none) ∙ one_substring is some

two_substrings : (p : List Item) (ps : List (List Item)) → (ps ≡ [] → ⊥) → lines_of_substrings (p ∷ ps) ≡ without_return p ∷ lines_of_substrings ps
two_substrings p [] some = absurd (some refl)
two_substrings p (q ∷ ps) some = refl

one_placed : (form : EncodingForm) (offset : ℕ) (is : List Item) → is ≢ [] → placed_substrings form offset (is ∷ []) ≡ (offset, is) ∷ []
one_placed form offset [] some = absurd (some refl)
one_placed form offset (i ∷ is) some = refl

two_placed : (form : EncodingForm) (offset : ℕ) (p : List Item) (ps : List (List Item)) → (ps ≡ [] → ⊥) → placed_substrings form offset (p ∷ ps) ≡ (offset, without_return p) ∷ placed_substrings form (offset + (length (units_of form p) + 1)) ps
two_placed form offset p [] some = absurd (some refl)
two_placed form offset p (q ∷ ps) some = refl

onto-some : (i : Item) (ps : List (List Item)) → onto_first i ps ≡ [] → ⊥
onto-some i [] e = cc
onto-some i (p ∷ ps) e = cc

cond-some : (b : Bool) (xs ys : List (List Item)) → (xs ≡ [] → ⊥) → (ys ≡ [] → ⊥) → cond b xs ys ≡ [] → ⊥
cond-some true xs ys some other e = some e
cond-some false xs ys some other e = other e

-- Items are split into at least one substring.
pub substrings-some : (is : List Item) → slice_split is_line_feed is ≡ [] → ⊥
substrings-some [] e = cc
substrings-some (i ∷ is) e = cond-some (is_line_feed i) ([] ∷ slice_split is_line_feed is) (onto_first i (slice_split is_line_feed is)) (λ f. cc) (onto-some i (slice_split is_line_feed is)) e

-- The first line feed ends the first line.
pub lines-ended : (is rest : List Item) → All (λ i. is_line_feed i ≡ false) is → lines_of (is ++ Char line_feed ∷ rest) ≡ without_return is ∷ lines_of rest
lines-ended is rest none =
    ap lines_of_substrings (slice_split_at is_line_feed is (Char line_feed) rest none refl) ∙ two_substrings is (slice_split is_line_feed rest) (substrings-some rest)

none_placed : (form : EncodingForm) (offset : ℕ) (ps : List (List Item)) → lines_of_substrings ps ≡ [] → placed_substrings form offset ps ≡ []
none_placed form offset [] e = refl
none_placed form offset ([] ∷ []) e = refl
none_placed form offset ((i ∷ is) ∷ []) e = cc
none_placed form offset (p ∷ q ∷ ps) e = cc

-- If there are no lines, there are none with offsets.
pub placed-none : (form : EncodingForm) (offset : ℕ) (is : List Item) → lines_of is ≡ [] → placed_lines form offset is ≡ []
placed-none form offset is e = none_placed form offset (slice_split is_line_feed is) e

placed-ended : (form : EncodingForm) (is rest : List Item) (offset : ℕ) → All (λ i. is_line_feed i ≡ false) is
    → placed_lines form offset (is ++ Char line_feed ∷ rest) ≡ (offset, without_return is) ∷ placed_lines form (offset + (length (units_of form is) + 1)) rest
placed-ended form is rest offset none =
    ap (placed_substrings form offset) (slice_split_at is_line_feed is (Char line_feed) rest none refl) ∙ two_placed form offset is (slice_split is_line_feed rest) (substrings-some rest)

-- A line that ends in a carriage return loses it.
pub without-return : (is : List Item) → without_return (is ++ Char carriage_return ∷ []) ≡ is
without-return [] = refl
without-return (Char c ∷ []) = refl
without-return (Fault u ∷ []) = refl
without-return (i ∷ j ∷ is) = ap (λ js. i ∷ js) (without-return (j ∷ is))

keeps : (c : ℕ) (b : Bool) → eqb c carriage_return ≡ b → (c ≡ carriage_return → ⊥) → cond b [] (Char c ∷ []) ≡ Char c ∷ []
keeps c true e other = absurd (other (eqb-true c carriage_return e))
keeps c false e other = refl

-- A line that does not end in a carriage return is unchanged.
pub without-none : (is : List Item) → ((prefix : List Item) → is ≡ prefix ++ Char carriage_return ∷ [] → ⊥) → without_return is ≡ is
without-none [] other = refl
without-none (Char c ∷ []) other = keeps c (eqb c carriage_return) refl (λ e. other [] (ap (λ d. Char d ∷ []) e))
without-none (Fault u ∷ []) other = refl
without-none (i ∷ j ∷ is) other = ap (λ js. i ∷ js) (without-none (j ∷ is) (λ prefix e. other (i ∷ prefix) (ap (λ js. i ∷ js) e)))

-- A line feed has one unit.
pub one_feed : (form : EncodingForm) → code_units form line_feed ≡ line_feed ∷ []
one_feed Utf16 = refl
one_feed Utf32 = refl

one_return : (form : EncodingForm) → code_units form carriage_return ≡ carriage_return ∷ []
one_return Utf16 = refl
one_return Utf32 = refl

no_pair_with_feed : (form : EncodingForm) (h : ℕ) → IsPair form h line_feed → ⊥
no_pair_with_feed Utf16 h pair = let low = (IsPair-parts Utf16 h line_feed pair).1 in absurd (omega (arith, low.0))
no_pair_with_feed Utf32 h pair = (IsPair-parts Utf32 h line_feed pair).1

module _ (form : EncodingForm) (prefix back : List ℕ) where
  -- A line feed in a list of units is a separate item.
  pub items-at_feed : items form (prefix ++ line_feed ∷ back) ≡ items form prefix ++ Char line_feed ∷ items form back
  items-at_feed =
      let cut : IsCut form prefix (line_feed ∷ back) = λ ends starts h l e f pair. let same : line_feed ≡ l = cc in no_pair_with_feed form h (subst (λ u. IsPair form h u) (sym same) pair) in
      items-append form prefix (line_feed ∷ back) cut ∙ ap (λ is. items form prefix ++ is) (ap (λ us. items form (us ++ back)) (sym (one_feed form)) ∙ items-prefix_char form line_feed back refl)

  -- A carriage return at the end of a list of units is a separate item.
  pub items-before_return : items form (prefix ++ carriage_return ∷ []) ≡ items form prefix ++ Char carriage_return ∷ []
  items-before_return = ap (λ us. items form (prefix ++ us)) (sym (one_return form)) ∙ items-back_char form prefix carriage_return refl

All-right : (P : ℕ → Type 0) (xs ys : List ℕ) → All P (xs ++ ys) → All P ys
All-right P [] ys all = all
All-right P (x ∷ xs) ys all = All-right P xs ys (All-tail P x (xs ++ ys) all)

-- If no unit of the items is a line feed, no item is one.
feed-item : (form : EncodingForm) (is : List Item) → All (λ u. u ≢ line_feed) (units_of form is) → All (λ i. is_line_feed i ≡ false) is
feed-item form [] none = All-nil (λ i. is_line_feed i ≡ false)
feed-item form (Char c ∷ is) none = All-cons (λ i. is_line_feed i ≡ false) (Char c) is (decide (eqb c line_feed) refl) (feed-item form is (All-right (λ u. u ≢ line_feed) (code_units form c) (units_of form is) none))
  where
    decide : (b : Bool) → eqb c line_feed ≡ b → eqb c line_feed ≡ false
    decide false e = e
    decide true e =
        let same : c ≡ line_feed = eqb-true c line_feed e in
        let units : code_units form c ++ units_of form is ≡ line_feed ∷ units_of form is = ap (λ d. code_units form d ++ units_of form is) same ∙ ap (λ us. us ++ units_of form is) (one_feed form) in
        absurd (All-head (λ u. u ≢ line_feed) line_feed (units_of form is) (subst (λ us. All (λ u. u ≢ line_feed) us) units none) refl)
feed-item form (Fault u ∷ is) none = All-cons (λ i. is_line_feed i ≡ false) (Fault u) is refl (feed-item form is (All-tail (λ v. v ≢ line_feed) u (units_of form is) none))

-- Units without a line feed have no item that is one.
pub items-no_feed : (form : EncodingForm) (us : List ℕ) → All (λ u. u ≢ line_feed) us → All (λ i. is_line_feed i ≡ false) (items form us)
items-no_feed form us none = feed-item form (items form us) (subst (λ vs. All (λ u. u ≢ line_feed) vs) (sym (units_of-items form us)) none)

-- Units that do not end in a carriage return have no such item at the end.
pub items-no_return : (form : EncodingForm) (us : List ℕ) → ((prefix : List ℕ) → us ≡ prefix ++ carriage_return ∷ [] → ⊥) → (prefix : List Item) → items form us ≡ prefix ++ Char carriage_return ∷ [] → ⊥
items-no_return form us other prefix e =
    other (units_of form prefix) (sym (units_of-items form us) ∙ ap (λ is. units_of form is) e ∙ units_of-append form prefix (Char carriage_return ∷ []) ∙ ap (λ vs. units_of form prefix ++ vs) (append-nil (code_units form carriage_return) ∙ one_return form))

-- A list of at least one unit has at least one item.
pub some_items : (form : EncodingForm) (us : List ℕ) → us ≢ [] → items form us ≢ []
some_items form us some e = some (sym (units_of-items form us) ∙ ap (λ js. units_of form js) e)

-- The lines of units whose first line feed follows the units `prefix`.
pub lines-at_feed : (form : EncodingForm) (prefix back : List ℕ) → All (λ u. u ≢ line_feed) prefix
    → lines_of (items form (prefix ++ line_feed ∷ back)) ≡ without_return (items form prefix) ∷ lines_of (items form back)
lines-at_feed form prefix back none =
    ap lines_of (items-at_feed form prefix back) ∙ lines-ended (items form prefix) (items form back) (items-no_feed form prefix none)

module _ (form : EncodingForm) (us prefix back : List ℕ) (split : us ≡ prefix ++ line_feed ∷ back) (none : All (λ u. u ≢ line_feed) prefix) where
  feed-items : items form us ≡ items form prefix ++ Char line_feed ∷ items form back
  feed-items = ap (items form) split ∙ items-at_feed form prefix back

  feed-lines : lines_of (items form us) ≡ without_return (items form prefix) ∷ lines_of (items form back)
  feed-lines = ap (λ vs. lines_of (items form vs)) split ∙ lines-at_feed form prefix back none

  feed-placed : TakesLine form (items form us) (without_return (items form prefix)) (items form back) (length us - length back)
  feed-placed offset =
      let taken : length (units_of form (items form prefix)) + 1 ≡ length us - length back = omega (arith, ap length (units_of-items form prefix), ap length split, length-append prefix (line_feed ∷ back)) in
      ap (placed_lines form offset) feed-items ∙ placed-ended form (items form prefix) (items form back) offset (items-no_feed form prefix none)
      ∙ ap (λ n. (offset, without_return (items form prefix)) ∷ placed_lines form (offset + n) (items form back)) taken

  prefix-well_formed : IsWellFormed form us → IsWellFormed form prefix
  prefix-well_formed well = record { no_fault = λ u at. well.no_fault u (subst (λ is. Contains is (Fault u)) (sym feed-items) (Contains-append_left (items form prefix) (Char line_feed ∷ items form back) (Fault u) at)) }

  back-well_formed : IsWellFormed form us → IsWellFormed form back
  back-well_formed well = record {
    no_fault = λ u at.
        well.no_fault u (subst (λ is. Contains is (Fault u)) (sym feed-items) (Contains-append_right (items form prefix) (Char line_feed ∷ items form back) (Fault u) (Contains-append_right (Char line_feed ∷ []) (items form back) (Fault u) at)));
  }

  pub IsFirstLine-feed : ((line : List ℕ) → prefix ≡ line ++ carriage_return ∷ [] → ⊥) → IsFirstLine form us prefix back
  IsFirstLine-feed other = record {
    lines = feed-lines ∙ ap (λ is. is ∷ lines_of (items form back)) (without-none (items form prefix) (items-no_return form prefix other));
    well_formed = λ well. (prefix-well_formed well, back-well_formed well);
    placed = subst (λ is. TakesLine form (items form us) is (items form back) (length us - length back)) (without-none (items form prefix) (items-no_return form prefix other)) feed-placed;
  }

  pub IsFirstLine-return : (line : List ℕ) → prefix ≡ line ++ carriage_return ∷ [] → IsFirstLine form us line back
  IsFirstLine-return line e =
      let ends : items form prefix ≡ items form line ++ Char carriage_return ∷ [] = ap (items form) e ∙ items-before_return form line [] in
      record {
        lines = feed-lines ∙ ap (λ is. without_return is ∷ lines_of (items form back)) ends ∙ ap (λ is. is ∷ lines_of (items form back)) (without-return (items form line));
        well_formed = λ well. (record { no_fault = λ u at. (prefix-well_formed well).no_fault u (subst (λ is. Contains is (Fault u)) (sym ends) (Contains-append_left (items form line) (Char carriage_return ∷ []) (Fault u) at)) }, back-well_formed well);
        placed = subst (λ is. TakesLine form (items form us) is (items form back) (length us - length back)) (ap without_return ends ∙ without-return (items form line)) feed-placed;
      }

pub IsFirstLine-whole : (form : EncodingForm) (us : List ℕ) → us ≢ [] → All (λ u. u ≢ line_feed) us → IsFirstLine form us us []
IsFirstLine-whole form us some none =
    let is = items form us in
    let full : is ≢ [] = some_items form us some in
    let no_more : lines_of (items form []) ≡ [] = ap lines_of (items-nil form) in
    record {
      lines = lines-unended is full (items-no_feed form us none) ∙ ap (λ ls. is ∷ ls) (sym no_more);
      well_formed = λ well. (well, record { no_fault = λ u at. let in_nil : Contains [] (Fault u) = subst (λ js. Contains js (Fault u)) (items-nil form) at in absurd (omega (arith, in_nil.1)) });
      placed = λ offset.
          let nothing : placed_lines form (offset + (length us - 0)) (items form []) ≡ [] = ap (placed_lines form (offset + (length us - 0))) (items-nil form) in
          ap (placed_substrings form offset) (slice_split_none is_line_feed is (items-no_feed form us none)) ∙ one_placed form offset is full ∙ ap (λ ls. (offset, is) ∷ ls) (sym nothing);
    }
