-- A string after a call that may have failed: its units are still well formed, and the characters that it has.
use Rattle.std.proofs.Common.{◌≡◌, ℕ, ◌≤◌, List, ◌++◌, map, length, ap, sym, subst, ◌∙◌, arith, Result}
use Rattle.std.specs.Prelude.{OnOk, OnErr}
use Rattle.std.specs.List.{splice}
use Rattle.std.specs.Range.Bound.{start_index, end_index}
use Rattle.std.specs.declared.ops.Bound.{Bound}
use Rattle.std.proofs.lemmas.List.{map-append, length-map}
use Rattle.wide_forms.specs.EncodingForm.{EncodingForm}
use Rattle.wide_forms.specs.Range.{IsWithin}
use Rattle.wide_forms.specs.Items.{chars, IsBoundary, IsWellFormed}
use Rattle.wide_forms.specs.Offsets.{chars_before, IsCharBoundary, IsCharRange, IsCharPart, IsTextRange}
use Rattle.wide_forms.specs.Laws.Offsets.{IsBoundary-within}
use Rattle.wide_forms.specs.Laws.Splices.{IsWellFormed-append, chars-append, IsWellFormed-splice, chars-splice, IsWellFormed-map_splice, chars-map_splice}
use Rattle.wide_unit.proofs.CharBoundaries.{IsBoundary-of_char, IsTextRange-of_chars}
use Rattle.wide_ustring.specs.Units.{Units}
use Rattle.wide_utfstring.proofs.Edits.{joined, kept, on_ok}

-- The string `old`, which is also seen as `now`, is well formed.
module _ {X : Type 0} (form : EncodingForm) (number : X → ℕ) (old now : Units X) (view : old ≡ now) where
  pub boundary-in : (at : ℕ) → IsCharBoundary form (map number now.units) at → IsBoundary form (map number old.units) at
  boundary-in at here = IsBoundary-of_char form (map number old.units) at (subst (λ s. IsCharBoundary form (map number s.units) at) (sym view) here)

  pub place-in : (at : ℕ) → IsCharBoundary form (map number now.units) at → at ≤ length old.units
  place-in at here = omega (arith, IsBoundary-within form (map number old.units) at (boundary-in at here), length-map old.units number)

  pub range-in : (from to : ℕ) → IsCharRange form (map number now.units) from to → IsTextRange form (map number old.units) from to
  range-in from to part = IsTextRange-of_chars form (map number old.units) from to (subst (λ s. IsCharRange form (map number s.units) from to) (sym view) part)

  pub within-in : (from to : ℕ) → IsCharRange form (map number now.units) from to → IsWithin from to (length old.units)
  within-in from to part =
      let range = range-in from to part in
      record { forward = range.within.forward; within = omega (arith, range.within.within, length-map old.units number) }

  pub part-in : (start end : Bound ℕ) → IsCharPart form number now.units start end → IsTextRange form (map number old.units) (start_index start) (end_index end (length old.units))
  part-in start end part =
      IsTextRange-of_chars form (map number old.units) (start_index start) (end_index end (length old.units)) (subst (λ s. IsCharPart form number s.units start end) (sym view) part)

  module _ (well : IsWellFormed form (map number old.units)) (new : Units X) {A E : Type 0} (r : Result A E) where
    -- What is known after a call that succeeded: the numbers of the units.
    module _ (vs : List ℕ) (is : OnOk r (map number new.units ≡ vs)) where
      still : IsWellFormed form vs → OnErr r (new ≡ old) → IsWellFormed form (map number new.units)
      still whole err = kept form number r old new well (on_ok r (λ e. subst (IsWellFormed form) (sym e) whole) is) err

      has : (cs : List ℕ) → chars form vs ≡ cs → OnOk r (chars form (map number new.units) ≡ cs)
      has cs same = on_ok r (λ e. ap (chars form) e ∙ same) is

    -- What is known after a call that succeeded: the units themselves.
    module _ (ys : List X) (is : OnOk r (new.units ≡ ys)) where
      still-units : IsWellFormed form (map number ys) → OnErr r (new ≡ old) → IsWellFormed form (map number new.units)
      still-units whole err = kept form number r old new well (on_ok r (λ e. subst (λ zs. IsWellFormed form (map number zs)) (sym e) whole) is) err

      has-units : (cs : List ℕ) → chars form (map number ys) ≡ cs → OnOk r (chars form (map number new.units) ≡ cs)
      has-units cs same = on_ok r (λ e. ap (λ zs. chars form (map number zs)) e ∙ same) is

    -- What holds if text was appended.
    module _ (added : List ℕ) (is : OnOk r (map number new.units ≡ map number old.units ++ added)) where
      pub appended-well : IsWellFormed form added → OnErr r (new ≡ old) → IsWellFormed form (map number new.units)
      appended-well fine err = still (map number old.units ++ added) is (IsWellFormed-append form (map number old.units) added well fine) err

      pub appended-text : (cs : List ℕ) → chars form added ≡ cs → OnOk r (chars form (map number new.units) ≡ chars form (map number now.units) ++ cs)
      appended-text cs same =
          subst (λ s. OnOk r (chars form (map number new.units) ≡ chars form (map number s.units) ++ cs)) view
          (has (map number old.units ++ added) is (chars form (map number old.units) ++ cs) (chars-append form (map number old.units) added well ∙ ap (λ ds. chars form (map number old.units) ++ ds) same))

    module _ (added : List X) (is : OnOk r (new.units ≡ old.units ++ added)) where
      pub joined-well : IsWellFormed form (map number added) → OnErr r (new ≡ old) → IsWellFormed form (map number new.units)
      joined-well fine err = still-units (old.units ++ added) is (joined form number old.units added well fine) err

      pub joined-text : (seen : List X) → added ≡ seen → OnOk r (chars form (map number new.units) ≡ chars form (map number now.units) ++ chars form (map number seen))
      joined-text seen same =
          subst (λ s. OnOk r (chars form (map number new.units) ≡ chars form (map number s.units) ++ chars form (map number seen))) view
          (has-units (old.units ++ added) is (chars form (map number old.units) ++ chars form (map number seen))
          (ap (chars form) (map-append number old.units added) ∙ chars-append form (map number old.units) (map number added) well ∙ ap (λ zs. chars form (map number old.units) ++ chars form (map number zs)) same))

    -- What holds if text replaced the slice between two boundaries.
    module _ (from to : ℕ) (first : IsBoundary form (map number old.units) from) (last : IsBoundary form (map number old.units) to) where
      module _ (put : List ℕ) (fine : IsWellFormed form put) (is : OnOk r (map number new.units ≡ splice (map number old.units) from to put)) where
        pub spliced-well : OnErr r (new ≡ old) → IsWellFormed form (map number new.units)
        spliced-well err = still (splice (map number old.units) from to put) is (IsWellFormed-splice form (map number old.units) from to well first last put fine) err

        pub spliced-text : (cs : List ℕ) → chars form put ≡ cs
            → OnOk r (chars form (map number new.units) ≡ splice (chars form (map number now.units)) (chars_before form (map number now.units) from) (chars_before form (map number now.units) to) cs)
        spliced-text cs same =
            subst (λ s. OnOk r (chars form (map number new.units) ≡ splice (chars form (map number s.units)) (chars_before form (map number s.units) from) (chars_before form (map number s.units) to) cs)) view
            (has (splice (map number old.units) from to put) is (splice (chars form (map number old.units)) (chars_before form (map number old.units) from) (chars_before form (map number old.units) to) cs)
            (chars-splice form (map number old.units) from to well first last put fine ∙ ap (splice (chars form (map number old.units)) (chars_before form (map number old.units) from) (chars_before form (map number old.units) to)) same))

      module _ (put : List X) (fine : IsWellFormed form (map number put)) (is : OnOk r (new.units ≡ splice old.units from to put)) where
        pub replaced-well : OnErr r (new ≡ old) → IsWellFormed form (map number new.units)
        replaced-well err = still-units (splice old.units from to put) is (IsWellFormed-map_splice form number old.units well from to first last put fine) err

        replaced-old : (seen : List X) → put ≡ seen
            → OnOk r (chars form (map number new.units) ≡ splice (chars form (map number old.units)) (chars_before form (map number old.units) from) (chars_before form (map number old.units) to) (chars form (map number seen)))
        replaced-old seen same =
            has-units (splice old.units from to put) is (splice (chars form (map number old.units)) (chars_before form (map number old.units) from) (chars_before form (map number old.units) to) (chars form (map number seen)))
            (chars-map_splice form number old.units well from to first last put fine ∙ ap (λ zs. splice (chars form (map number old.units)) (chars_before form (map number old.units) from) (chars_before form (map number old.units) to) (chars form (map number zs))) same)

        pub replaced-text : (seen : List X) → put ≡ seen
            → OnOk r (chars form (map number new.units) ≡ splice (chars form (map number now.units)) (chars_before form (map number now.units) from) (chars_before form (map number now.units) to) (chars form (map number seen)))
        replaced-text seen same =
            subst (λ s. OnOk r (chars form (map number new.units) ≡ splice (chars form (map number s.units)) (chars_before form (map number s.units) from) (chars_before form (map number s.units) to) (chars form (map number seen)))) view
            (replaced-old seen same)

    -- What holds if text replaced the slice between two bounds.
    module _ (start end : Bound ℕ) (part : IsCharPart form number now.units start end) (put : List X) (fine : IsWellFormed form (map number put)) (is : OnOk r (new.units ≡ splice old.units (start_index start) (end_index end (length old.units)) put)) where
      range : IsTextRange form (map number old.units) (start_index start) (end_index end (length old.units))
      range = part-in start end part

      pub part-well : OnErr r (new ≡ old) → IsWellFormed form (map number new.units)
      part-well err = replaced-well (start_index start) (end_index end (length old.units)) range.start range.end put fine is err

      pub part-text : (seen : List X) → put ≡ seen
          → OnOk r (chars form (map number new.units) ≡ splice (chars form (map number now.units)) (chars_before form (map number now.units) (start_index start)) (chars_before form (map number now.units) (end_index end (length now.units))) (chars form (map number seen)))
      part-text seen same =
          subst (λ s. OnOk r (chars form (map number new.units) ≡ splice (chars form (map number s.units)) (chars_before form (map number s.units) (start_index start)) (chars_before form (map number s.units) (end_index end (length s.units))) (chars form (map number seen)))) view
          (replaced-old (start_index start) (end_index end (length old.units)) range.start range.end put fine is seen same)
