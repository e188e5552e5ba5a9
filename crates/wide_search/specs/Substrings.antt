-- Splitting a list at a separator.
use Rattle.std.specs.Prelude.{◌≡◌, ◌+◌, List, [], ◌∷◌, ◌++◌, length, take, drop}
use Rattle.wide_search.specs.Occurrences.{OccursNowhere, IsFirstAt}

module _ {A : Type 0} where
  -- Each split is at the first occurrence of the separator in what is left after the split before, and it does not
  -- occur in what is left after the last split. For an empty separator, no list satisfies it.
  abbrev pub AreSubstrings : List A → List A → List (List A) → Type 0
  AreSubstrings needle whole [] = ⊥
  AreSubstrings needle whole (substring ∷ []) = (substring ≡ whole) × OccursNowhere needle whole
  AreSubstrings needle whole (substring ∷ next ∷ more) =
      IsFirstAt needle whole (length substring) × (substring ≡ take (length substring) whole) × AreSubstrings needle (drop (length substring + length needle) whole) (next ∷ more)

  -- The substrings, joined with the separator.
  abbrev pub joined_with : List A → List (List A) → List A
  joined_with needle [] = []
  joined_with needle (substring ∷ []) = substring
  joined_with needle (substring ∷ next ∷ more) = substring ++ (needle ++ joined_with needle (next ∷ more))
