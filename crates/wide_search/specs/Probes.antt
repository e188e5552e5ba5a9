-- Two units at a distance from each other, by which a search finds where a needle may occur.
use Rattle.std.specs.Prelude.{◌≡◌, ◌+◌, ◌&&◌, ◌||◌, [], ◌∷◌, ℕ, Bool, List, length, take, drop, slice_index, true}
use Rattle.wide_forms.specs.Searches.{is_unit}
use Rattle.wide_search.specs.declared.needle.Probe.{Probe}
use Rattle.wide_search.specs.declared.either.Either.{Either}

-- The probe has the needle's first unit, its last one, and how many units the last one is from the first.
pub record IsProbe {C : Type 0} (needle : List C) (probe : Probe C) : Type 0 where
  pub first : take 1 needle ≡ probe.first ∷ []
  pub last : drop probe.distance needle ≡ probe.last ∷ []
  pub length : length needle ≡ probe.distance + 1

-- Whether two units have these numbers.
abbrev pub are_units : (first last : ℕ) → ℕ → ℕ → Bool
are_units first last u v = is_unit first u && is_unit last v

-- At index `k`, `front` has the unit `first`, and `back` has the unit `last`.
abbrev pub BothMatchAt : (first last : ℕ) → (front back : List ℕ) → ℕ → Type 0
BothMatchAt first last front back k = are_units first last (slice_index front k) (slice_index back k) ≡ true

-- Whether a unit has one of two numbers.
abbrev pub is_either : {L : Type 0} → (L → ℕ) → Either L → ℕ → Bool
is_either number either u = is_unit (number either.one) u || is_unit (number either.other) u

-- Whether each of two units has one of two numbers.
abbrev pub are_either : {L : Type 0} → (L → ℕ) → (first last : Either L) → ℕ → ℕ → Bool
are_either number first last u v = is_either number first u && is_either number last v

-- At index `k`, `front` has one of the units `first`, and `back` one of the units `last`.
abbrev pub EitherMatchesAt : {L : Type 0} → (L → ℕ) → (first last : Either L) → (front back : List ℕ) → ℕ → Type 0
EitherMatchesAt number first last front back k = are_either number first last (slice_index front k) (slice_index back k) ≡ true
