-- Occurrences of a needle that are replaced: the substrings between them are joined again.
use Rattle.std.specs.Prelude.{ℕ, zero, suc, List, [], ◌∷◌, ◌++◌}
use Rattle.wide_search.specs.Substrings.{joined_with}

module _ {A : Type 0} where
  -- The substrings, joined with `with` in place of the first `count` occurrences of the needle, and with the needle
  -- from there on.
  abbrev pub joined_first : ℕ → List A → List A → List (List A) → List A
  joined_first zero with needle substrings = joined_with needle substrings
  joined_first (suc count) with needle [] = []
  joined_first (suc count) with needle (substring ∷ []) = substring
  joined_first (suc count) with needle (substring ∷ next ∷ more) = substring ++ (with ++ joined_first count with needle (next ∷ more))
