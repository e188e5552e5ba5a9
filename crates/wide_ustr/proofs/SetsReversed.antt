-- The substrings of units between the characters of a set are the same from either end.
use Rattle.std.proofs.Common.{◌≡◌, ℕ, ◌<◌, Bool, true, false, List, [], ◌∷◌, ◌++◌, refl, sym, ◌∙◌, ap, arith, length}
use Rattle.std.specs.Prelude.{if◌then◌else◌, map, reverse}
use Rattle.std.proofs.lemmas.List.{map-append, reverse-append, reverse-reverse}
use Rattle.wide_forms.specs.EncodingForm.{EncodingForm}
use Rattle.wide_forms.specs.Segmentation.{Item, units_of}
use Rattle.wide_forms.specs.Items.{items}
use Rattle.wide_search.specs.Sets.{is_member, onto_first, between, substrings_between}
use Rattle.wide_ustr.specs.Kept.{units_back}
use Rattle.wide_ustr.specs.SetSplits.{rsplit_between}

module _ {A : Type 0} where
  -- The lists, and the element after the last one.
  abbrev onto_last : A → List (List A) → List (List A)
  onto_last x [] = (x ∷ []) ∷ []
  onto_last x (last ∷ []) = (last ++ x ∷ []) ∷ []
  onto_last x (list ∷ next ∷ more) = list ∷ onto_last x (next ∷ more)

  onto-last : (x : A) (lists : List (List A)) (last : List A) → onto_last x (lists ++ last ∷ []) ≡ lists ++ (last ++ x ∷ []) ∷ []
  onto-last x [] last = refl
  onto-last x (list ∷ []) last = refl
  onto-last x (list ∷ next ∷ more) last = ap (λ ls. list ∷ ls) (onto-last x (next ∷ more) last)

  -- The lists from the last one to the first one, and each of them so.
  abbrev mirrored : List (List A) → List (List A)
  mirrored lists = reverse (map reverse lists)

  mirrored-cons : (list : List A) (lists : List (List A)) → mirrored (list ∷ lists) ≡ mirrored lists ++ reverse list ∷ []
  mirrored-cons list lists = reverse-append (reverse list ∷ []) (map reverse lists)

  mirrored-onto : (x : A) (lists : List (List A)) → mirrored (onto_first x lists) ≡ onto_last x (mirrored lists)
  mirrored-onto x [] = refl
  mirrored-onto x (first ∷ more) =
      mirrored-cons (x ∷ first) more ∙ ap (λ list. mirrored more ++ list ∷ []) (reverse-append (x ∷ []) first) ∙ sym (onto-last x (mirrored more) (reverse first)) ∙ ap (onto_last x) (sym (mirrored-cons first more))

  some_lists : (b : Bool) (x : A) (lists : List (List A)) → 0 < length (if b then [] ∷ lists else onto_first x lists)
  some_lists true x lists = omega arith
  some_lists false x [] = omega arith
  some_lists false x (first ∷ more) = omega arith

  last_of : (b c : Bool) (x y : A) (lists : List (List A)) → 0 < length lists
      → (if c then [] ∷ (if b then lists ++ [] ∷ [] else onto_last x lists) else onto_first y (if b then lists ++ [] ∷ [] else onto_last x lists)) ≡ (if b then (if c then [] ∷ lists else onto_first y lists) ++ [] ∷ [] else onto_last x (if c then [] ∷ lists else onto_first y lists))
  last_of b c x y [] some = absurd (omega (arith, some))
  last_of true true x y (first ∷ more) some = refl
  last_of true false x y (first ∷ more) some = refl
  last_of false true x y (first ∷ more) some = refl
  last_of false false x y (first ∷ []) some = refl
  last_of false false x y (first ∷ next ∷ more) some = refl

module _ {A : Type 0} (separates : A → Bool) where
  between-some : (xs : List A) → 0 < length (between separates xs)
  between-some [] = omega arith
  between-some (x ∷ xs) = some_lists (separates x) x (between separates xs)

  between-last : (xs : List A) (x : A) → between separates (xs ++ x ∷ []) ≡ (if separates x then between separates xs ++ [] ∷ [] else onto_last x (between separates xs))
  between-last [] x = refl
  between-last (y ∷ xs) x =
      ap (λ lists. if separates y then [] ∷ lists else onto_first y lists) (between-last xs x) ∙ last_of (separates x) (separates y) x y (between separates xs) (between-some xs)

  mirrored_kind : (b : Bool) (x : A) (lists : List (List A)) → (if b then mirrored lists ++ [] ∷ [] else onto_last x (mirrored lists)) ≡ mirrored (if b then [] ∷ lists else onto_first x lists)
  mirrored_kind true x lists = sym (mirrored-cons [] lists)
  mirrored_kind false x lists = sym (mirrored-onto x lists)

  pub between-mirrored : (xs : List A) → between separates (reverse xs) ≡ mirrored (between separates xs)
  between-mirrored [] = refl
  between-mirrored (x ∷ xs) =
      ap (between separates) (reverse-append (x ∷ []) xs) ∙ between-last (reverse xs) x
      ∙ ap (λ lists. if separates x then lists ++ [] ∷ [] else onto_last x lists) (between-mirrored xs) ∙ mirrored_kind (separates x) x (between separates xs)

module _ (form : EncodingForm) where
  units-mirrored : (lists : List (List Item)) → map reverse (map (units_back form) (mirrored lists)) ≡ reverse (map (units_of form) lists)
  units-mirrored [] = refl
  units-mirrored (is ∷ lists) =
      ap (λ ls. map reverse (map (units_back form) ls)) (mirrored-cons is lists)
      ∙ ap (map reverse) (map-append (units_back form) (mirrored lists) (reverse is ∷ [])) ∙ map-append reverse (map (units_back form) (mirrored lists)) (units_back form (reverse is) ∷ [])
      ∙ ap (λ us. map reverse (map (units_back form) (mirrored lists)) ++ us ∷ []) (reverse-reverse (units_of form (reverse (reverse is))) ∙ ap (units_of form) (reverse-reverse is))
      ∙ ap (λ ls. ls ++ units_of form is ∷ []) (units-mirrored lists) ∙ sym (reverse-append (units_of form is ∷ []) (map (units_of form) lists))

  -- From the back, they are those from the front, the last one first.
  pub rsplit-reversed : (has : ℕ → Bool) (us : List ℕ) → rsplit_between form has us ≡ reverse (substrings_between form has us)
  rsplit-reversed has us =
      ap (λ vs. map reverse (map (units_back form) (between (is_member has) (reverse (items form vs))))) (reverse-reverse us)
      ∙ ap (λ lists. map reverse (map (units_back form) lists)) (between-mirrored (is_member has) (items form us)) ∙ units-mirrored (between (is_member has) (items form us))
