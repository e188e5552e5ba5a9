-- Substrings with the separators that end them, and at most a number of substrings.
use Rattle.std.specs.Prelude.{◌≡◌, ℕ, zero, suc, Bool, if◌then◌else◌, List, [], ◌∷◌, ◌++◌, map, reverse, take, drop}
use Rattle.wide_forms.specs.EncodingForm.{EncodingForm}
use Rattle.wide_forms.specs.Segmentation.{Item, units_of}
use Rattle.wide_forms.specs.Items.{items}
use Rattle.wide_search.specs.Cut.{substrings}
use Rattle.wide_search.specs.Sets.{is_member, onto_first, between}

module _ {A : Type 0} where
  -- The lists, one after the other.
  abbrev pub joined : List (List A) → List A
  joined [] = []
  joined (part ∷ more) = part ++ joined more

  -- Each list but the last one, with the separator after it.
  abbrev pub followed_by : List A → List (List A) → List (List A)
  followed_by separator [] = []
  followed_by separator (part ∷ []) = part ∷ []
  followed_by separator (part ∷ next ∷ more) = (part ++ separator) ∷ followed_by separator (next ∷ more)

  -- The lists between the elements that separate, each with the one that ends it.
  abbrev pub between_kept : (A → Bool) → List A → List (List A)
  between_kept separates [] = [] ∷ []
  between_kept separates (x ∷ xs) = if separates x then (x ∷ []) ∷ between_kept separates xs else onto_first x (between_kept separates xs)

  -- All lists in one, or none if there are none.
  abbrev pub in_one : List (List A) → List (List A)
  in_one [] = []
  in_one (part ∷ more) = joined (part ∷ more) ∷ []

  -- At most `count` of some substrings: all but the last of these, and as the last one all that follow, with the
  -- separators that end them.
  abbrev pub limited : ℕ → List (List A) → List (List A) → List (List A)
  limited zero parts kept = []
  limited (suc count) parts kept = take count parts ++ in_one (drop count kept)

-- The substrings into which a list is split at a separator, each with the separator after it, but for the last one.
abbrev pub substrings_kept : List ℕ → List ℕ → List (List ℕ)
substrings_kept needle whole = followed_by needle (substrings needle whole)

-- The numbers of the units of each substring that ends with a character of a set, or at the end.
abbrev pub substrings_ended : EncodingForm → (ℕ → Bool) → List ℕ → List (List ℕ)
substrings_ended form has us = map (units_of form) (between_kept (is_member has) (items form us))

-- The substrings of a list are the first one, and then those of the rest.
abbrev pub IsFirstCut : (List ℕ → List (List ℕ)) → List ℕ → List ℕ → List ℕ → Type 0
IsFirstCut cut whole first rest = cut whole ≡ first ∷ cut rest

-- The substrings of a list are those of the rest, and then the last one.
abbrev pub IsLastCut : (List ℕ → List (List ℕ)) → List ℕ → List ℕ → List ℕ → Type 0
IsLastCut cut whole rest last = cut whole ≡ cut rest ++ last ∷ []

-- The first substring, with the separator that ends it, and then those of the rest.
pub record IsFirstKept (kept : List ℕ → List (List ℕ)) (whole first rest : List ℕ) : Type 0 where
  pub separator : List ℕ
  pub cut : kept whole ≡ (first ++ separator) ∷ kept rest

-- The numbers of the units of items that are given from the last one to the first one, themselves from the last one to
-- the first one.
abbrev pub units_back : EncodingForm → List Item → List ℕ
units_back form is = reverse (units_of form (reverse is))

-- The substrings between the characters of a set, of units that are read from their end.
abbrev pub substrings_between_back : EncodingForm → (ℕ → Bool) → List ℕ → List (List ℕ)
substrings_between_back form has us = map (units_back form) (between (is_member has) (reverse (items form (reverse us))))

-- The same substrings, each with the character of the set that ends it.
abbrev pub substrings_ended_back : EncodingForm → (ℕ → Bool) → List ℕ → List (List ℕ)
substrings_ended_back form has us = map (units_back form) (between_kept (is_member has) (reverse (items form (reverse us))))
