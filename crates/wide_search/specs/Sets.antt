-- Characters of a set in units, and the substrings between them.
use Rattle.std.specs.Prelude.{◌≡◌, ℕ, Bool, true, false, ◌==◌, ◌||◌, if◌then◌else◌, List, [], ◌∷◌, ◌++◌, map, length, reverse}
use Rattle.std.specs.List.{All}
use Rattle.wide_forms.specs.EncodingForm.{EncodingForm}
use Rattle.wide_forms.specs.Segmentation.{Item, Char, Fault, units_of}
use Rattle.wide_forms.specs.Items.{items}

-- Whether a number is in a list.
abbrev pub is_among : List ℕ → ℕ → Bool
is_among [] c = false
is_among (x ∷ xs) c = (x == c) || is_among xs c

-- Whether an item is a character of a set. A fault is no character.
abbrev pub is_member : (ℕ → Bool) → Item → Bool
is_member has (Char c) = has c
is_member has (Fault u) = false

module _ {A : Type 0} where
  -- The element, and then the elements of the first list.
  abbrev pub onto_first : A → List (List A) → List (List A)
  onto_first x [] = (x ∷ []) ∷ []
  onto_first x (first ∷ more) = (x ∷ first) ∷ more

  -- The lists between the elements that separate: one more than there are such elements.
  abbrev pub between : (A → Bool) → List A → List (List A)
  between separates [] = [] ∷ []
  between separates (x ∷ xs) = if separates x then [] ∷ between separates xs else onto_first x (between separates xs)

  -- The elements from the first one on that does not satisfy the predicate.
  abbrev pub skip_while : (A → Bool) → List A → List A
  skip_while passes [] = []
  skip_while passes (x ∷ xs) = if passes x then skip_while passes xs else x ∷ xs

-- The units after their longest prefix of characters of a set.
abbrev pub without_prefix : EncodingForm → (ℕ → Bool) → List ℕ → List ℕ
without_prefix form has us = units_of form (skip_while (is_member has) (items form us))

-- The units before their longest suffix of characters of a set.
abbrev pub without_suffix : EncodingForm → (ℕ → Bool) → List ℕ → List ℕ
without_suffix form has us = units_of form (reverse (skip_while (is_member has) (reverse (items form us))))

-- The units without their longest prefix, and then without their longest suffix, of characters of a set.
abbrev pub without_ends : EncodingForm → (ℕ → Bool) → List ℕ → List ℕ
without_ends form has us = units_of form (reverse (skip_while (is_member has) (reverse (skip_while (is_member has) (items form us)))))

-- The numbers of the units of each substring between the characters of a set.
abbrev pub substrings_between : EncodingForm → (ℕ → Bool) → List ℕ → List (List ℕ)
substrings_between form has us = map (units_of form) (between (is_member has) (items form us))

-- The longest prefix of units whose items are all characters of a set, or are all none, ends at an offset in units.
pub record IsLongestPrefix (form : EncodingForm) (has : ℕ → Bool) (members : Bool) (us : List ℕ) (at : ℕ) : Type 0 where
  pub prefix : List Item
  pub rest : List Item
  pub joined : items form us ≡ prefix ++ rest
  pub length : length (units_of form prefix) ≡ at
  pub all : All (λ i. is_member has i ≡ members) prefix
  -- The next item, if there is one, is of the other kind.
  pub ends : (i : Item) (more : List Item) → rest ≡ i ∷ more → ¬ (is_member has i ≡ members)

-- The longest suffix of units whose items are all characters of a set, or are all none, begins at an offset in units.
pub record IsLongestSuffix (form : EncodingForm) (has : ℕ → Bool) (members : Bool) (us : List ℕ) (at : ℕ) : Type 0 where
  pub rest : List Item
  pub suffix : List Item
  pub joined : items form us ≡ rest ++ suffix
  pub length : length (units_of form rest) ≡ at
  pub all : All (λ i. is_member has i ≡ members) suffix
  -- The item before it, if there is one, is of the other kind.
  pub begins : (others : List Item) (i : Item) → rest ≡ others ++ i ∷ [] → ¬ (is_member has i ≡ members)

-- A character of a set is in units, and no other of the set before it: it begins at `start`, and ends at `end`.
pub record IsFirstMember (form : EncodingForm) (has : ℕ → Bool) (us : List ℕ) (start end : ℕ) : Type 0 where
  pub prefix : List Item
  pub c : ℕ
  pub rest : List Item
  pub joined : items form us ≡ prefix ++ Char c ∷ rest
  pub member : has c ≡ true
  pub none_before : All (λ i. is_member has i ≡ false) prefix
  pub begins : length (units_of form prefix) ≡ start
  pub ends : length (units_of form (prefix ++ Char c ∷ [])) ≡ end
