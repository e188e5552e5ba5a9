-- Substrings with their separators are all units, and at least one substring.
use Rattle.std.proofs.Common.{◌≡◌, ℕ, ◌<◌, Bool, true, false, List, [], ◌∷◌, ◌++◌, refl, sym, ◌∙◌, ap, arith, length, append_assoc}
use Rattle.std.specs.Prelude.{if◌then◌else◌, map, reverse}
use Rattle.std.proofs.lemmas.List.{append-nil, length-map, reverse-append, reverse-reverse}
use Rattle.wide_forms.specs.EncodingForm.{EncodingForm}
use Rattle.wide_forms.specs.Segmentation.{Item, units_of}
use Rattle.wide_forms.specs.Items.{items}
use Rattle.wide_forms.specs.Laws.Boundaries.{units_of-append}
use Rattle.wide_forms.specs.Laws.Items.{units_of-items}
use Rattle.wide_search.specs.Cut.{substrings, substrings-are, substrings-whole}
use Rattle.wide_search.specs.Sets.{is_member, onto_first, between}
use Rattle.wide_search.specs.Substrings.{joined_with}
use Rattle.wide_search.specs.Laws.Cuts.{some-substrings}
use Rattle.wide_search.specs.Laws.Occurrences.{substrings-joined}
use Rattle.wide_ustr.specs.Kept.{joined, followed_by, between_kept, substrings_kept, substrings_ended, units_back, substrings_between_back, substrings_ended_back}

module _ {A : Type 0} (separator : List A) where
  -- Joined, they are the substrings joined with the separator.
  pub joined-followed : (parts : List (List A)) → joined (followed_by separator parts) ≡ joined_with separator parts
  joined-followed [] = refl
  joined-followed (part ∷ []) = append-nil part
  joined-followed (part ∷ next ∷ more) = append_assoc part separator (joined (followed_by separator (next ∷ more))) ∙ ap (λ xs. part ++ (separator ++ xs)) (joined-followed (next ∷ more))

  some-followed : (parts : List (List A)) → 0 < length parts → 0 < length (followed_by separator parts)
  some-followed [] some = absurd (omega (arith, some))
  some-followed (part ∷ []) some = omega arith
  some-followed (part ∷ next ∷ more) some = omega arith

module _ {A : Type 0} (separates : A → Bool) where
  joined-onto : (x : A) (lists : List (List A)) → joined (onto_first x lists) ≡ x ∷ joined lists
  joined-onto x [] = refl
  joined-onto x (first ∷ more) = refl

  joined-one : (b : Bool) (x : A) (lists : List (List A)) (xs : List A) → joined lists ≡ xs → joined (if b then (x ∷ []) ∷ lists else onto_first x lists) ≡ x ∷ xs
  joined-one true x lists xs e = ap (λ ys. x ∷ ys) e
  joined-one false x lists xs e = joined-onto x lists ∙ ap (λ ys. x ∷ ys) e

  joined-between : (xs : List A) → joined (between_kept separates xs) ≡ xs
  joined-between [] = refl
  joined-between (x ∷ xs) = joined-one (separates x) x (between_kept separates xs) xs (joined-between xs)

  some_onto : (x : A) (lists : List (List A)) → 0 < length (onto_first x lists)
  some_onto x [] = omega arith
  some_onto x (first ∷ more) = omega arith

  some_more : (b : Bool) (x : A) (lists : List (List A)) → 0 < length (if b then (x ∷ []) ∷ lists else onto_first x lists)
  some_more true x lists = omega arith
  some_more false x lists = some_onto x lists

  some-between : (xs : List A) → 0 < length (between_kept separates xs)
  some-between [] = omega arith
  some-between (x ∷ xs) = some_more (separates x) x (between_kept separates xs)

pub whole-joined : (needle whole : List ℕ) → joined_with needle (substrings needle whole) ≡ whole
whole-joined [] whole = ap (joined_with []) (substrings-whole whole)
whole-joined (p ∷ needle) whole = substrings-joined (p ∷ needle) (substrings (p ∷ needle) whole) whole (substrings-are (p ∷ needle) whole (omega arith))

-- At a separator of units.
pub kept-whole : (needle whole : List ℕ) → joined (substrings_kept needle whole) ≡ whole
kept-whole needle whole = joined-followed needle (substrings needle whole) ∙ whole-joined needle whole

pub kept-some : (needle whole : List ℕ) → 0 < length (substrings_kept needle whole)
kept-some needle whole = some-followed needle (substrings needle whole) (some-substrings needle whole)

-- At the characters of a set.
module _ (form : EncodingForm) (has : ℕ → Bool) where
  joined-units : (lists : List (List Item)) → joined (map (units_of form) lists) ≡ units_of form (joined lists)
  joined-units [] = refl
  joined-units (is ∷ lists) = ap (λ us. units_of form is ++ us) (joined-units lists) ∙ sym (units_of-append form is (joined lists))

  pub ended-whole : (us : List ℕ) → joined (substrings_ended form has us) ≡ us
  ended-whole us = joined-units (between_kept (is_member has) (items form us)) ∙ ap (units_of form) (joined-between (is_member has) (items form us)) ∙ units_of-items form us

  pub ended-some : (us : List ℕ) → 0 < length (substrings_ended form has us)
  ended-some us = omega (arith, some-between (is_member has) (items form us), length-map (between_kept (is_member has) (items form us)) (units_of form))

  -- The same of units that are read from their end.
  joined-back : (lists : List (List Item)) → joined (map (units_back form) lists) ≡ units_back form (joined lists)
  joined-back [] = refl
  joined-back (is ∷ lists) =
      ap (λ us. units_back form is ++ us) (joined-back lists)
      ∙ sym (ap reverse (ap (units_of form) (reverse-append is (joined lists)) ∙ units_of-append form (reverse (joined lists)) (reverse is)) ∙ reverse-append (units_of form (reverse (joined lists))) (units_of form (reverse is)))

  pub ended_back-whole : (us : List ℕ) → joined (substrings_ended_back form has us) ≡ us
  ended_back-whole us =
      let is = reverse (items form (reverse us)) in
      joined-back (between_kept (is_member has) is) ∙ ap (units_back form) (joined-between (is_member has) is)
      ∙ ap (λ js. reverse (units_of form js)) (reverse-reverse (items form (reverse us))) ∙ ap reverse (units_of-items form (reverse us)) ∙ reverse-reverse us

  pub ended_back-some : (us : List ℕ) → 0 < length (substrings_ended_back form has us)
  ended_back-some us =
      let is = reverse (items form (reverse us)) in
      omega (arith, some-between (is_member has) is, length-map (between_kept (is_member has) is) (units_back form))

  some_parts : (x : Item) (lists : List (List Item)) → 0 < length (onto_first x lists)
  some_parts x [] = omega arith
  some_parts x (first ∷ more) = omega arith

  some_more_parts : (b : Bool) (x : Item) (lists : List (List Item)) → 0 < length (if b then [] ∷ lists else onto_first x lists)
  some_more_parts true x lists = omega arith
  some_more_parts false x lists = some_parts x lists

  some-parts : (is : List Item) → 0 < length (between (is_member has) is)
  some-parts [] = omega arith
  some-parts (i ∷ is) = some_more_parts (is_member has i) i (between (is_member has) is)

  pub between_back-some : (us : List ℕ) → 0 < length (substrings_between_back form has us)
  between_back-some us =
      let is = reverse (items form (reverse us)) in
      omega (arith, some-parts is, length-map (between (is_member has) is) (units_back form))
