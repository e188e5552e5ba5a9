-- The only list of substrings into which a list of numbers is split.
use Rattle.std.specs.Prelude.{◌≡◌, ℕ, ◌<◌, List, [], ◌∷◌, length}
use Rattle.std.proofs.Common.{arith, refl}
use Rattle.wide_search.specs.Substrings.{AreSubstrings}
use Rattle.wide_search.specs.Laws.Occurrences.{substrings-exist}

-- The substrings into which the second list is split at the first one. The definition is opaque: `substrings-are` and
-- `substrings-whole` state all that is known about it. At an empty needle the whole list is the only substring.
pub substrings : List ℕ → List ℕ → List (List ℕ)
substrings [] whole = whole ∷ []
substrings (p ∷ needle) whole = (substrings-exist p needle whole).0

pub substrings-are : (needle whole : List ℕ) → 0 < length needle → AreSubstrings needle whole (substrings needle whole)
unfolding substrings
substrings-are [] whole some = absurd (omega (arith, some))
substrings-are (p ∷ needle) whole some = (substrings-exist p needle whole).1

pub substrings-whole : (whole : List ℕ) → substrings [] whole ≡ whole ∷ []
unfolding substrings
substrings-whole whole = refl
