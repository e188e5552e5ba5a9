-- Units are split at the characters of a set into at least one substring.
use Rattle.std.proofs.Common.{ℕ, ◌<◌, Bool, true, false, List, [], ◌∷◌, length, arith}
use Rattle.std.specs.Prelude.{if◌then◌else◌}
use Rattle.std.proofs.lemmas.List.{length-map}
use Rattle.wide_forms.specs.EncodingForm.{EncodingForm}
use Rattle.wide_forms.specs.Segmentation.{units_of}
use Rattle.wide_forms.specs.Items.{items}
use Rattle.wide_search.specs.Sets.{is_member, onto_first, between, substrings_between}

module _ {A : Type 0} (separates : A → Bool) where
  some_onto : (x : A) (lists : List (List A)) → 0 < length (onto_first x lists)
  some_onto x [] = omega arith
  some_onto x (first ∷ more) = omega arith

  some_more : (b : Bool) (x : A) (lists : List (List A)) → 0 < length (if b then [] ∷ lists else onto_first x lists)
  some_more true x lists = omega arith
  some_more false x lists = some_onto x lists

  some_between : (xs : List A) → 0 < length (between separates xs)
  some_between [] = omega arith
  some_between (x ∷ xs) = some_more (separates x) x (between separates xs)

pub between-some : (form : EncodingForm) (has : ℕ → Bool) (us : List ℕ) → 0 < length (substrings_between form has us)
between-some form has us = omega (arith, some_between (is_member has) (items form us), length-map (between (is_member has) (items form us)) (units_of form))
