-- Offsets that a search found, and the substrings between them.
use Rattle.std.proofs.Common.{refl, ◌≡◌, ℕ, ◌+◌, ◌-◌, ◌≤◌, ◌++◌, List, [], sym, ◌∙◌, ap, arith, length, take, drop, map, length-append, length-drop, subst, Ok, Err, Some, None}
use Rattle.std.specs.Prelude.{slice_range, Result, Option, IsOk, OnOk}
use Rattle.std.proofs.lemmas.List.{length-map, length-take-le, take-map, drop-map, drop_all}
use Rattle.std.proofs.lemmas.List.Concat.{flat_map-append}
use Rattle.std.proofs.Math.Seq.{take-add}
use Rattle.wide_forms.specs.EncodingForm.{EncodingForm, code_units, encode}
use Rattle.wide_forms.specs.Items.{chars, IsWellFormed}
use Rattle.wide_forms.specs.Offsets.{IsOffsetOf, IsCharBoundary, IsCharRange, chars_before}
use Rattle.wide_forms.specs.Laws.Offsets.{offset-IsOffsetOf, IsOffsetOf-prefix, IsWellFormed-drop}
use Rattle.wide_forms.specs.Laws.Splices.{chars-part, chars-nil}
use Rattle.wide_forms.specs.Laws.Encodings.{offsets-grow}
use Rattle.wide_unit.proofs.CharBoundaries.{IsCharBoundary-of}
use Rattle.wide_offset_index.specs.Found.{IsFoundAt, IsFoundRange}

-- The postcondition of a call that succeeded.
pub got : {T E P : Type 0} (r : Result T E) → IsOk r → OnOk r P → P
got (Ok x) i p = p
got (Err e) i p = absurd cc

-- The number of characters before the offset of a character is its index.
pub before-offset : (form : EncodingForm) (us : List ℕ) (i at : ℕ) → i ≤ length (chars form us) → IsOffsetOf form us i at → chars_before form us at ≡ i
before-offset form us i at le p = ap length p.prefix ∙ length-take-le i (chars form us) le

-- What a search that found an offset says, and one that found none.
module _ (form : EncodingForm) (us : List ℕ) (i : ℕ) where
  pub record Found (at : ℕ) : Type 0 where
    pub within : i ≤ length (chars form us)
    pub offset : IsOffsetOf form us i at
    pub boundary : IsCharBoundary form us at

  -- A search that found an offset says that it is the offset of the character.
  pub found_some : (r : Option ℕ) (at : ℕ) → IsFoundAt form us i r → r ≡ Some at → Found at
  found_some (Some a) at found e =
      let same : a ≡ at = cc in
      record { within = found.some.0 refl; offset = subst (IsOffsetOf form us i) same found.offset; boundary = subst (IsCharBoundary form us) same found.boundary }
  found_some None at found e = absurd cc

  -- A search that found none says that the index is past the end.
  pub found_none : (r : Option ℕ) → IsFoundAt form us i r → r ≡ None → i ≤ length (chars form us) → ⊥
  found_none (Some a) found e le = absurd cc
  found_none None found e le = let f = found.some.1 le in absurd cc

-- A range of no units is a range of no characters.
pub no_units : (form : EncodingForm) (us : List ℕ) (at : ℕ) → IsCharBoundary form us at → IsCharRange form us at at
no_units form us at here = record { within = record { forward = omega arith; within = here.0 }; start = here; end = here }

module _ {X : Type 0} (form : EncodingForm) (number : X → ℕ) (xs : List X) (well : IsWellFormed form (map number xs)) where
  abbrev us : List ℕ
  us = map number xs

  -- The offset of a later character is no smaller.
  pub range-forward : (i j a b : ℕ) → i ≤ j → IsOffsetOf form us i a → IsOffsetOf form us j b → a ≤ b
  range-forward i j a b le p q = omega (arith, offset-IsOffsetOf form us well i a p, offset-IsOffsetOf form us well j b q, offsets-grow form (chars form us) i j le)

  -- The offsets of two characters in order are a range.
  pub found_range : (i j a b : ℕ) → i ≤ j → Found form us i a → Found form us j b → IsFoundRange form us i j a b
  found_range i j a b le first last = record {
    forward = le;
    within = last.within;
    starts = first.offset;
    ends = last.offset;
    range = record { within = record { forward = range-forward i j a b le first.offset last.offset; within = last.boundary.0 }; start = first.boundary; end = last.boundary };
  }

  -- A substring of the units has the characters of the corresponding range.
  pub part-text : (i j a b : ℕ) → IsFoundRange form us i j a b → chars form (map number (slice_range xs a b)) ≡ slice_range (chars form us) i j
  part-text i j a b r =
      let before-i = before-offset form us i a (omega (arith, r.forward, r.within)) r.starts in
      let before-j = before-offset form us j b r.within r.ends in
      let same : map number (slice_range xs a b) ≡ slice_range us a b = sym (ap (take (b - a)) (drop-map number a xs) ∙ take-map number (b - a) (drop a xs)) in
      ap (chars form) same ∙ chars-part form us a b well r.starts.boundary r.ends.boundary r.range.within.forward ∙ ap (λ k. slice_range (chars form us) k (chars_before form us b)) before-i
      ∙ ap (slice_range (chars form us) i) before-j

  -- There are no characters after the end.
  pub end-all : (i at : ℕ) → IsOffsetOf form us i at → at ≡ length xs → length (chars form us) ≤ i
  end-all i at p e =
      let none : drop at us ≡ [] = drop_all at us (omega (arith, length-map xs number)) in
      omega (arith, ap length (sym p.rest ∙ ap (chars form) none ∙ chars-nil form), length-drop i (chars form us))

-- The offset of a character from the offset of an earlier one.
module _ (form : EncodingForm) (us : List ℕ) (well : IsWellFormed form us) (i at : ℕ) (here : Found form us i at) (k n : ℕ) (ahead : IsOffsetOf form (drop at us) k n) where
  further-offset : at + n ≡ length (encode form (take (i + k) (chars form us)))
  further-offset =
      let cs = chars form us in
      let first : at ≡ length (encode form (take i cs)) = offset-IsOffsetOf form us well i at here.offset in
      let second : n ≡ length (encode form (take k (chars form (drop at us)))) = offset-IsOffsetOf form (drop at us) (IsWellFormed-drop form us well at here.offset.boundary) k n ahead in
      let both : take i cs ++ take k (drop i cs) ≡ take (i + k) cs = sym (take-add i k cs) in
      omega (arith, first, second ∙ ap (λ xs. length (encode form (take k xs))) here.offset.rest, length-append (encode form (take i cs)) (encode form (take k (drop i cs))), ap (λ xs. length (encode form xs)) both, ap length (flat_map-append (code_units form) (take i cs) (take k (drop i cs))))

  pub further : IsOffsetOf form us (i + k) (at + n)
  further = subst (λ m. IsOffsetOf form us (i + k) m) (sym further-offset) (IsOffsetOf-prefix form us well (i + k))

-- A search from an earlier character on found an offset in the units after that one.
module _ {X : Type 0} (form : EncodingForm) (number : X → ℕ) (xs : List X) (well : IsWellFormed form (map number xs)) (from to at ahead : ℕ) (forward : from ≤ to) (back : List X) (cut : back ≡ drop at xs) (first : Found form (map number xs) from at) where
  pub found-second : to - from ≤ length (chars form (map number back)) → IsOffsetOf form (map number back) (to - from) ahead → IsFoundAt form (map number xs) to (Some (at + ahead))
  found-second some further-on =
      let us = map number xs in
      let rest : map number back ≡ drop at us = ap (map number) cut ∙ sym (drop-map number at xs) in
      let index : from + (to - from) ≡ to = omega (arith, forward) in
      let offset : IsOffsetOf form us to (at + ahead) = subst (λ i. IsOffsetOf form us i (at + ahead)) index (further form us well from at first (to - from) ahead (subst (λ vs. IsOffsetOf form vs (to - from) ahead) rest further-on)) in
      let characters : chars form (map number back) ≡ drop from (chars form us) = ap (chars form) rest ∙ first.offset.rest in
      let within : to ≤ length (chars form us) = omega (arith, some, forward, first.within, ap length characters, length-drop from (chars form us)) in
      record { some = (λ _. within, λ _. refl); offset = offset; boundary = IsCharBoundary-of form us (at + ahead) well offset.boundary }
