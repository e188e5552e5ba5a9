-- The loop of `retain_chars`: what the closure returned for the characters that were passed, and the units of the
-- characters that were retained.
use Rattle.std.proofs.Common.{◌≡◌, ℕ, ◌+◌, ◌-◌, ◌<◌, ◌≤◌, List, [], ◌∷◌, ◌++◌, Bool, true, false, cond, length, map, take, drop, set, slice_range, refl, ap, sym, ◌∙◌, subst, arith, append_assoc, append-nil, get_or, length-append, length-drop, length-set}
use Rattle.std.proofs.lemmas.List.{drop_all, drop-drop, drop_more, drop-set-lt, length-take-le, map-append, take_at}
use Rattle.std.proofs.lemmas.Slice.{drop-append-drop}
use Rattle.std.specs.Char.{IsScalar}
use Rattle.std.specs.Int.{from_bool}
use Rattle.std.specs.List.{copy_within}
use Rattle.std.specs.List.Retain.{IsFiltered}
use Rattle.wide_forms.specs.EncodingForm.{EncodingForm, code_units}
use Rattle.wide_forms.specs.Segmentation.{Char}
use Rattle.wide_forms.specs.Items.{items, characters, chars, IsWellFormed}
use Rattle.wide_forms.specs.Laws.Ends.{IsWellFormed-code_units, items-first_char}
use Rattle.wide_forms.specs.Laws.Offsets.{scalars-chars}
use Rattle.wide_forms.specs.Laws.Splices.{IsWellFormed-nil, IsWellFormed-append, chars-nil, chars-append, chars-code_units}
use Rattle.wide_forms.specs.Laws.WellFormed.{well_formed-rest}
use Rattle.wide_ustring.proofs.Filters.{no_elements, one_element, at_most_one, take_counted, append_counted}

-- A slice of a list that is copied to a lower index, over the elements before it.
module _ {X : Type 0} (xs : List X) (from to onto : ℕ) (down : onto ≤ from) (forward : from ≤ to) (within : to ≤ length xs) where
  prefix-long : length (take onto xs ++ slice_range xs from to) ≡ onto + (to - from)
  prefix-long =
      length-append (take onto xs) (slice_range xs from to)
      ∙ omega (arith, length-take-le onto xs (omega arith), length-take-le (to - from) (drop from xs) (omega (arith, length-drop from xs)))

  take-copied : take (onto + (to - from)) (copy_within xs from to onto) ≡ take onto xs ++ slice_range xs from to
  take-copied = take_at (take onto xs ++ slice_range xs from to) (drop (onto + (to - from)) xs) (onto + (to - from)) prefix-long

  drop-copied : drop to (copy_within xs from to onto) ≡ drop to xs
  drop-copied = drop-append-drop (onto + (to - from)) xs (take onto xs ++ slice_range xs from to) to (omega arith) prefix-long

  length-copied : length (copy_within xs from to onto) ≡ length xs
  length-copied =
      length-append (take onto xs ++ slice_range xs from to) (drop (onto + (to - from)) xs)
      ∙ omega (arith, prefix-long, length-drop (onto + (to - from)) xs)

drop_same : {X : Type 0} (xs ys : List X) (from to : ℕ) → from ≤ to → drop from xs ≡ drop from ys → drop to xs ≡ drop to ys
drop_same xs ys from to forward e =
    let next : to ≡ from + (to - from) = omega arith in
    ap (λ n. drop n xs) next ∙ sym (drop-drop (to - from) from xs) ∙ ap (drop (to - from)) e ∙ drop-drop (to - from) from ys ∙ ap (λ n. drop n ys) (sym next)

module _ {X P : Type 0} (form : EncodingForm) (number : X → ℕ) (answers : P → ℕ → Bool → P → Type 0) where
  abbrev text : List X → List ℕ
  text xs = chars form (map number xs)

  abbrev IsText : List X → Type 0
  IsText xs = IsWellFormed form (map number xs)

  -- The units of a character after those of a text.
  module _ (front us : List X) (c : ℕ) (well : IsText front) (scalar : IsScalar c) (units : map number us ≡ code_units form c) where
    with_units : map number (front ++ us) ≡ map number front ++ code_units form c
    with_units = map-append number front us ∙ ap (λ more. map number front ++ more) units

    with_char : text (front ++ us) ≡ text front ++ c ∷ []
    with_char =
        ap (chars form) with_units ∙ chars-append form (map number front) (code_units form c) well
        ∙ ap (λ cs. text front ++ cs) (chars-code_units form c scalar)

    still_text : IsText (front ++ us)
    still_text =
        subst (λ more. IsWellFormed form more) (sym with_units) (IsWellFormed-append form (map number front) (code_units form c) well (IsWellFormed-code_units form c scalar))

    counted_char : (wanted : Bool) → text (cond wanted (front ++ us) front) ≡ cond wanted (text front ++ c ∷ []) (text front)
    counted_char true = with_char
    counted_char false = refl

    counted_text : (wanted : Bool) → IsText (cond wanted (front ++ us) front)
    counted_text true = still_text
    counted_text false = well

  -- The closure was `first` and is `now` after calls for the characters before `at`. The units of the characters that
  -- it retained are the first `kept`.
  pub record FilteringChars (first now : P) (old new : List X) (kept at : ℕ) : Type 0 where
    pub finish : (cs : List ℕ) → IsFiltered answers now (text (drop at old)) cs → IsFiltered answers first (text old) (text (take kept new) ++ cs)
    pub below : kept ≤ at
    pub length_same : length new ≡ length old
    pub to_come : drop at new ≡ drop at old
    pub kept_well_formed : IsText (take kept new)
    pub rest_well_formed : IsText (drop at old)

  pub begins : (p : P) (old : List X) → IsText old → FilteringChars p p old old 0 0
  begins p old well = record {
    finish = λ cs h. subst (λ ds. IsFiltered answers p (text old) (ds ++ cs)) (sym (chars-nil form)) h;
    below = omega arith;
    length_same = refl;
    to_come = refl;
    kept_well_formed = IsWellFormed-nil form;
    rest_well_formed = well;
  }

  module _ (first now : P) (old new : List X) (kept at : ℕ) (so_far : FilteringChars first now old new kept at) where
    pub ends : length old ≤ at → IsFiltered answers first (text old) (text (take kept new))
    ends past =
        let none : text (drop at old) ≡ [] = ap text (drop_all at old past) ∙ chars-nil form in
        let all : IsFiltered answers first (text old) (text (take kept new) ++ []) = so_far.finish [] (subst (λ ds. IsFiltered answers now ds []) (sym none) (no_elements answers now)) in
        subst (λ ds. IsFiltered answers first (text old) ds) (append-nil (text (take kept new))) all

    module _ (later : P) (c next : ℕ) (after : at < next) (within : next ≤ length new) (is : text (drop at new) ≡ c ∷ text (drop next new)) (rest : IsText (drop next new)) where
      still_to_come : drop next new ≡ drop next old
      still_to_come = drop_same new old at next (omega arith) so_far.to_come

      next_char : text (drop at old) ≡ c ∷ text (drop next old)
      next_char = ap text (sym so_far.to_come) ∙ is ∙ ap (λ xs. c ∷ text xs) still_to_come

      rest_still : IsText (drop next old)
      rest_still = subst IsText still_to_come rest

      pub drops : answers now c false later → FilteringChars first later old new kept next
      drops asked = record {
        finish = λ cs h. so_far.finish cs (subst (λ ds. IsFiltered answers now ds cs) (sym next_char) (one_element answers now later c false (text (drop next old)) cs asked h));
        below = omega (arith, so_far.below);
        length_same = so_far.length_same;
        to_come = still_to_come;
        kept_well_formed = so_far.kept_well_formed;
        rest_well_formed = rest_still;
      }

      module _ (units : map number (slice_range new at next) ≡ code_units form c) where
        scalar : IsScalar c
        scalar =
            let well : IsText (drop at new) = subst IsText (sym so_far.to_come) so_far.rest_well_formed in
            subst (λ cs. IsScalar (get_or cs 0 c)) is (scalars-chars form (map number (drop at new)) well 0 c (omega (arith, ap length is)))

        copied : take (kept + (next - at)) (copy_within new at next kept) ≡ take kept new ++ slice_range new at next
        copied = take-copied new at next kept so_far.below (omega arith) within

        longer : text (take (kept + (next - at)) (copy_within new at next kept)) ≡ text (take kept new) ++ c ∷ []
        longer = ap text copied ∙ with_char (take kept new) (slice_range new at next) c so_far.kept_well_formed scalar units

        pub keeps : answers now c true later → FilteringChars first later old (copy_within new at next kept) (kept + (next - at)) next
        keeps asked = record {
          finish = λ cs h. let from_here : IsFiltered answers now (text (drop at old)) (c ∷ cs) =
              subst (λ ds. IsFiltered answers now ds (c ∷ cs)) (sym next_char) (one_element answers now later c true (text (drop next old)) cs asked h) in
              let joined : text (take (kept + (next - at)) (copy_within new at next kept)) ++ cs ≡ text (take kept new) ++ c ∷ cs = ap (λ ds. ds ++ cs) longer ∙ append_assoc (text (take kept new)) (c ∷ []) cs in
              subst (λ ds. IsFiltered answers first (text old) ds) (sym joined) (so_far.finish (c ∷ cs) from_here);
          below = omega (arith, so_far.below);
          length_same = length-copied new at next kept so_far.below (omega arith) within ∙ so_far.length_same;
          to_come = drop-copied new at next kept so_far.below (omega arith) within ∙ still_to_come;
          kept_well_formed = subst IsText (sym copied) (still_text (take kept new) (slice_range new at next) c so_far.kept_well_formed scalar units);
          rest_well_formed = rest_still;
        }

    -- The unit at `at` is a character by itself. It was written after the units that are retained, and counted if the
    -- closure wanted the character.
    module _ (later : P) (u : X) (c : ℕ) (wanted : Bool) (within : at < length new) (is : u ≡ get_or new at u) (scalar : IsScalar c) (encodes : code_units form c ≡ number u ∷ []) (asked : answers now c wanted later) where
      rest_to_come : drop (at + 1) new ≡ drop (at + 1) old
      rest_to_come = drop_same new old at (at + 1) (omega arith) so_far.to_come

      first_unit : drop at new ≡ u ∷ drop (at + 1) new
      first_unit = drop_more new at u within ∙ ap (λ v. v ∷ drop (at + 1) new) (sym is)

      first_item : items form (map number (drop at new)) ≡ Char c ∷ items form (map number (drop (at + 1) new))
      first_item = items-first_char form (map number (drop at new)) (map number (drop (at + 1) new)) (number u) c (ap (map number) first_unit) scalar encodes

      first_char : text (drop at old) ≡ c ∷ text (drop (at + 1) old)
      first_char = ap text (sym so_far.to_come) ∙ ap characters first_item ∙ ap (λ xs. c ∷ text xs) rest_to_come

      counted : take (kept + from_bool wanted) (set new kept u) ≡ cond wanted (take kept new ++ u ∷ []) (take kept new)
      counted = take_counted wanted new kept u (omega (arith, within, so_far.below))

      retained : (cs : List ℕ) → text (take (kept + from_bool wanted) (set new kept u)) ++ cs ≡ text (take kept new) ++ cond wanted (c ∷ cs) cs
      retained cs =
          ap (λ xs. text xs ++ cs) counted
          ∙ ap (λ ds. ds ++ cs) (counted_char (take kept new) (u ∷ []) c so_far.kept_well_formed scalar (sym encodes) wanted)
          ∙ append_counted wanted (text (take kept new)) cs c

      pub asks : FilteringChars first later old (set new kept u) (kept + from_bool wanted) (at + 1)
      asks = record {
        finish = λ cs h. let from_here : IsFiltered answers now (text (drop at old)) (cond wanted (c ∷ cs) cs) =
            subst (λ ds. IsFiltered answers now ds (cond wanted (c ∷ cs) cs)) (sym first_char) (one_element answers now later c wanted (text (drop (at + 1) old)) cs asked h) in
            subst (λ ds. IsFiltered answers first (text old) ds) (sym (retained cs)) (so_far.finish (cond wanted (c ∷ cs) cs) from_here);
        below = omega (arith, so_far.below, at_most_one wanted);
        length_same = length-set new kept u ∙ so_far.length_same;
        to_come = drop-set-lt (at + 1) new kept u (omega (arith, so_far.below)) ∙ rest_to_come;
        kept_well_formed = subst IsText (sym counted) (counted_text (take kept new) (u ∷ []) c so_far.kept_well_formed scalar (sym encodes) wanted);
        rest_well_formed = subst IsText rest_to_come (well_formed-rest form (map number (drop at new)) (map number (drop (at + 1) new)) (subst IsText (sym so_far.to_come) so_far.rest_well_formed) c first_item);
      }
