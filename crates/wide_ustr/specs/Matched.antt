-- Matches of a needle, each with its offset.
use Rattle.std.specs.Prelude.{◌≡◌, ℕ, ◌+◌, ◌<◌, ◌≤◌, List, [], ◌∷◌, ◌++◌, length, drop}
use Rattle.wide_search.specs.Cut.{substrings}
use Rattle.wide_search.specs.Occurrences.{IsFirstAt, IsFirstFrom, OccursNowhereFrom}

module _ {A : Type 0} where
  -- Each match is the first occurrence of the needle that does not begin before `from`, or before the end of the match
  -- before. No further one follows the last match.
  abbrev pub AreMatches : List A → List A → ℕ → List (ℕ × List A) → Type 0
  AreMatches needle whole from [] = OccursNowhereFrom needle whole from
  AreMatches needle whole from (m ∷ more) = IsFirstFrom needle whole from m.0 × (m.1 ≡ needle) × AreMatches needle whole (m.0 + length needle) more

  -- The needle after each substring but the last one, with its offset, if the first substring is at `from`.
  abbrev pub matches_between : List A → ℕ → List (List A) → List (ℕ × List A)
  matches_between needle from [] = []
  matches_between needle from (substring ∷ []) = []
  matches_between needle from (substring ∷ next ∷ more) = (from + length substring, needle) ∷ matches_between needle (from + length substring + length needle) (next ∷ more)

-- The matches of a needle in units: where these are split at it.
abbrev pub matches_in : List ℕ → List ℕ → List (ℕ × List ℕ)
matches_in needle whole = matches_between needle 0 (substrings needle whole)

-- The needle has units and first occurs at the offset, as `found`, and `rest` follows it.
pub record IsFirstMatch (needle whole : List ℕ) (at : ℕ) (found rest : List ℕ) : Type 0 where
  pub some : 0 < length needle
  pub first : IsFirstAt needle whole at
  pub same : found ≡ needle
  pub after : rest ≡ drop (at + length needle) whole

-- The needle occurs as `found` after `before`, and what follows it is the last substring.
pub record IsLastMatch (needle whole before found : List ℕ) : Type 0 where
  pub rest : List ℕ
  pub same : found ≡ needle
  pub cut : substrings needle whole ≡ substrings needle before ++ rest ∷ []
  pub within : length before ≤ length whole
