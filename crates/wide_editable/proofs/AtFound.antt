-- Edits that were made at offsets that a search found, and edits that were rejected since it found none.
use Rattle.std.proofs.Common.{◌≡◌, ℕ, ◌+◌, ◌-◌, ◌≤◌, List, [], ◌∷◌, ◌++◌, ap, sym, ◌∙◌, arith, length, take, drop, Some, None, Result}
use Rattle.std.specs.Prelude.{Option, IsOk, OnOk, slice_range}
use Rattle.std.specs.List.{splice}
use Rattle.std.specs.Borrow.{Bor}
use Rattle.std.specs.Str.{chars as str_chars}
use Rattle.std.proofs.lemmas.List.{take_all, drop-map}
use Rattle.wide_forms.specs.EncodingForm.{EncodingForm, code_units, encode}
use Rattle.wide_forms.specs.Items.{chars, IsWellFormed}
use Rattle.wide_forms.specs.Offsets.{IsCharBoundary, IsCharRange, chars_before}
use Rattle.wide_forms.specs.Laws.Offsets.{offset-IsOffsetOf}
use Rattle.wide_forms.specs.Laws.Splices.{chars-nil}
use Rattle.std.specs.Prelude.{map}
use Rattle.wide_offset_index.specs.Found.{IsFoundAt, IsFoundRange}
use Rattle.wide_edit.specs.Step.{changed, reply_to, chars_in, step, Chars}
use Rattle.wide_editable.specs.Edited.{IsMade}
use Rattle.wide_edit.specs.declared.edits.Edit.TheVariants.{Push, PushStr, Truncate, Insert, InsertStr, Remove, Drain, Replace, SplitOff}
use Rattle.wide_edit.specs.declared.edits.Reply.TheVariants as reply
use Rattle.wide_editable.proofs.Made.{in_place, in_range, made-push, made-push_str, made-truncate, made-insert, made-insert_str, made-remove, made-replace, made-split, made-drain, rejected-insert, rejected-insert_str, rejected-remove, rejected-split}
use Rattle.wide_offset_index.proofs.Lengths.{size-splice, size-one}
use Rattle.wide_offset_index.proofs.Offsets.{got, no_units, Found, found_some, found_none, before-offset, range-forward, part-text}

-- A text of the units `us`, in which a search for the character at an index had this result.
module _ (form : EncodingForm) (us : List ℕ) (i : ℕ) (r : Option ℕ) (search : IsFoundAt form us i r) where
  abbrev l : List ℕ
  l = chars form us

  module _ (none : r ≡ None) where
    never : i ≤ length l → ⊥
    never = found_none form us i r search none

    pub not-truncated : IsMade l (Truncate i) l reply.Done
    not-truncated = made-truncate l l i (sym (take_all i l (omega (arith, never))))

    pub not-inserted : (c : ℕ) → IsMade l (Insert i c) l reply.BadPlace
    not-inserted c = rejected-insert l i c never

    pub not-inserted_str : (t : Bor (List ℕ)) → IsMade l (InsertStr i t) l reply.BadPlace
    not-inserted_str t = rejected-insert_str l l t i never

    pub not-removed : IsMade l (Remove i) l reply.BadPlace
    not-removed = rejected-remove l i (omega (arith, never))

    pub not-split : IsMade l (SplitOff i) l reply.BadPlace
    not-split = rejected-split l i never

  module _ (at : ℕ) (some : r ≡ Some at) where
    there : Found form us i at
    there = found_some form us i r at search some

    before : chars_before form us at ≡ i
    before = before-offset form us i at there.within there.offset

    pub boundary-there : IsCharBoundary form us at
    boundary-there = there.boundary

    pub range-there : IsCharRange form us at at
    range-there = no_units form us at there.boundary

    module _ (vs : List ℕ) where
      pub truncated : chars form vs ≡ take (chars_before form us at) l → IsMade l (Truncate i) (chars form vs) reply.Done
      truncated e = made-truncate l (chars form vs) i (e ∙ ap (λ k. take k l) before)

      -- No allocation was needed for the new text.
      module _ {A E : Type 0} (done : Result A E) (len capacity : ℕ) (count : length (encode form l) ≡ len) where
        pub inserted : (c : ℕ) → length (encode form (changed l (Insert i c))) ≤ capacity → (len + length (code_units form c) ≤ capacity → IsOk done) → OnOk done (chars form vs ≡ splice l (chars_before form us at) (chars_before form us at) (c ∷ [])) → IsMade l (Insert i c) (chars form vs) reply.Done
        inserted c ready succeeds text =
            let fits : length (encode form (splice l i i (c ∷ []))) ≤ capacity = rw (in_place i (length l) there.within) at ready in
            let made = got done (succeeds (omega (arith, fits, size-splice form l (c ∷ []) i i, size-one form c, count))) text in
            made-insert l (chars form vs) i c there.within (made ∙ ap (λ k. splice l k k (c ∷ [])) before)

        pub inserted_str : (t : Bor (List ℕ)) → length (encode form (changed l (InsertStr i t))) ≤ capacity → (len + length (encode form (str_chars t.now)) ≤ capacity + (at - at) → IsOk done)
            → OnOk done (chars form vs ≡ splice l (chars_before form us at) (chars_before form us at) (str_chars t.now)) → IsMade l (InsertStr i t) (chars form vs) reply.Done
        inserted_str t ready succeeds text =
            let fits : length (encode form (splice l i i (str_chars t.now))) ≤ capacity = rw (in_place i (length l) there.within) at ready in
            let made = got done (succeeds (omega (arith, fits, size-splice form l (str_chars t.now) i i, count))) text in
            made-insert_str l (chars form vs) t i there.within (made ∙ ap (λ k. splice l k k (str_chars t.now)) before)

      pub removed : (c : ℕ) → drop (chars_before form us at) l ≡ c ∷ drop (chars_before form us at + 1) l → chars form vs ≡ splice l (chars_before form us at) (chars_before form us at + 1) [] → IsMade l (Remove i) (chars form vs) (reply.Char c)
      removed c taken text =
          made-remove l (chars form vs) i c there.within (ap (λ k. drop k l) (sym before) ∙ taken ∙ ap (λ k. c ∷ drop (k + 1) l) before) (text ∙ ap (λ k. splice l k (k + 1) []) before)

-- A range of the text was found.
module _ {X : Type 0} (form : EncodingForm) (number : X → ℕ) (xs : List X) (well : IsWellFormed form (map number xs)) (i j a b : ℕ) (found : IsFoundRange form (map number xs) i j a b) where
  abbrev text : List ℕ
  text = chars form (map number xs)

  first : chars_before form (map number xs) a ≡ i
  first = before-offset form (map number xs) i a (omega (arith, found.forward, found.within)) found.starts

  last : chars_before form (map number xs) b ≡ j
  last = before-offset form (map number xs) j b found.within found.ends

  module _ (vs : List ℕ) {A E : Type 0} (done : Result A E) (len capacity : ℕ) (count : length (encode form text) ≡ len) where
    pub replaced : (t : Bor (List ℕ)) → length (encode form (changed text (Replace i j t))) ≤ capacity → (len + length (encode form (str_chars t.now)) ≤ capacity + (b - a) → IsOk done)
        → OnOk done (chars form vs ≡ splice text (chars_before form (map number xs) a) (chars_before form (map number xs) b) (str_chars t.now)) → IsMade text (Replace i j t) (chars form vs) reply.Done
    replaced t ready succeeds spliced =
        let us = map number xs in
        let fits : length (encode form (splice text i j (str_chars t.now))) ≤ capacity = rw (in_range i j (length text) found.forward found.within) at ready in
        let enough : len + length (encode form (str_chars t.now)) ≤ capacity + (b - a) = omega (arith, fits, size-splice form text (str_chars t.now) i j, count, offset-IsOffsetOf form us well i a found.starts, offset-IsOffsetOf form us well j b found.ends, range-forward form number xs well i j a b found.forward found.starts found.ends) in
        let made = got done (succeeds enough) spliced in
        made-replace text (chars form vs) t i j found.forward found.within (made ∙ ap (λ k. splice text k (chars_before form us b) (str_chars t.now)) first ∙ ap (λ k. splice text i k (str_chars t.now)) last)

  module _ (view part : List X) (same : view ≡ xs) (cut : part ≡ slice_range view a b) where
    part-of : chars form (map number part) ≡ slice_range text i j
    part-of = ap (λ ys. chars form (map number ys)) cut ∙ ap (λ ys. chars form (map number (slice_range ys a b))) same ∙ part-text form number xs well i j a b found

    pub drained-fits : (space : ℕ) → chars_in (reply_to text (Drain i j)) ≤ space → length (chars form (map number part)) ≤ space
    drained-fits space fits =
        let enough : length (slice_range text i j) ≤ space = rw (in_range i j (length text) found.forward found.within) at fits in
        omega (arith, ap length part-of, enough)

    pub drained : {A E : Type 0} (vs taken : List ℕ) (done : Result A E) (put : List X) → taken ≡ chars form (map number part) → IsOk done → put ≡ []
        → OnOk done (chars form vs ≡ splice text (chars_before form (map number xs) a) (chars_before form (map number xs) b) (chars form (map number put)))
        → (chars form vs ≡ (step text (Drain i j)).0) × (Chars taken ≡ (step text (Drain i j)).1)
    drained vs taken done put is succeeded none spliced =
        let empty : chars form (map number put) ≡ [] = ap (λ ys. chars form (map number ys)) none ∙ chars-nil form in
        let made : chars form vs ≡ splice text (chars_before form (map number xs) a) (chars_before form (map number xs) b) (chars form (map number put)) = got done succeeded spliced in
        made-drain text (chars form vs) i j taken found.forward found.within
        (made ∙ ap (λ k. splice text k (chars_before form (map number xs) b) (chars form (map number put))) first ∙ ap (λ k. splice text i k (chars form (map number put))) last ∙ ap (splice text i j) empty) (is ∙ part-of)

-- The units from the offset on that a search found.
module _ {X : Type 0} (form : EncodingForm) (number : X → ℕ) (xs : List X) (i : ℕ) (r : Option ℕ) (search : IsFoundAt form (map number xs) i r) (at : ℕ) (some : r ≡ Some at) (back : List X) (cut : back ≡ drop at xs) where
  abbrev whole : List ℕ
  whole = chars form (map number xs)

  here : Found form (map number xs) i at
  here = found_some form (map number xs) i r at search some

  rest-of : chars form (map number back) ≡ drop i whole
  rest-of = ap (λ ys. chars form (map number ys)) cut ∙ ap (chars form) (sym (drop-map number at xs)) ∙ here.offset.rest

  pub split-fits : (space : ℕ) → chars_in (reply_to whole (SplitOff i)) ≤ space → length (chars form (map number back)) ≤ space
  split-fits space fits =
      let enough : length (drop i whole) ≤ space = rw (in_place i (length whole) here.within) at fits in
      omega (arith, ap length rest-of, enough)

  pub split : (vs taken : List ℕ) → taken ≡ chars form (map number back) → chars form vs ≡ take (chars_before form (map number xs) at) whole
      → (chars form vs ≡ (step whole (SplitOff i)).0) × (Chars taken ≡ (step whole (SplitOff i)).1)
  split vs taken is e =
      made-split whole (chars form vs) i taken here.within (e ∙ ap (λ k. take k whole) (before-offset form (map number xs) i at here.within here.offset)) (is ∙ rest-of)

-- Text was appended, and no allocation was needed.
module _ (form : EncodingForm) (l new : List ℕ) {A E : Type 0} (done : Result A E) (len capacity : ℕ) (count : length (encode form l) ≡ len) where
  pub pushed : (c : ℕ) → length (encode form (changed l (Push c))) ≤ capacity → (len + length (code_units form c) ≤ capacity → IsOk done) → OnOk done (new ≡ l ++ c ∷ []) → IsMade l (Push c) new reply.Done
  pushed c ready succeeds text = made-push l new c (got done (succeeds (omega (arith, ready, size-splice form l (c ∷ []) (length l) (length l), size-one form c, count))) text)

  pub pushed_str : (t : Bor (List ℕ)) → length (encode form (changed l (PushStr t))) ≤ capacity → (len + length (encode form (str_chars t.now)) ≤ capacity → IsOk done) → OnOk done (new ≡ l ++ str_chars t.now) → IsMade l (PushStr t) new reply.Done
  pushed_str t ready succeeds text = made-push_str l new t (got done (succeeds (omega (arith, ready, size-splice form l (str_chars t.now) (length l) (length l), count))) text)
