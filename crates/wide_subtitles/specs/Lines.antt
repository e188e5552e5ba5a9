-- Lines, and the units that end them.
use Rattle.std.specs.Prelude.{◌≡◌, ℕ, List, [], ◌∷◌, ◌⊎◌}
use Rattle.std.specs.List.{All}

-- A unit that is neither a line feed nor a carriage return.
abbrev pub IsInside : ℕ → Type 0
IsInside unit = ¬ (unit ≡ 10) × ¬ (unit ≡ 13)

-- What a text goes on with does not begin with a line feed.
abbrev pub BeginsWithNoFeed : List ℕ → Type 0
BeginsWithNoFeed rest = (others : List ℕ) → ¬ (rest ≡ 10 ∷ others)

-- The units end a line before the others: a line feed, both, or a carriage return that no line feed follows; or none, at
-- the end of the text.
abbrev pub IsEnd : List ℕ → List ℕ → Type 0
IsEnd end rest = (end ≡ 10 ∷ []) ⊎ (end ≡ 13 ∷ 10 ∷ []) ⊎ ((end ≡ 13 ∷ []) × BeginsWithNoFeed rest) ⊎ ((end ≡ []) × (rest ≡ []))

-- Nothing is left, or a unit that ends a line is first.
abbrev pub IsAtEnd : List ℕ → Type 0
IsAtEnd [] = Unit {0}
IsAtEnd (unit ∷ rest) = (unit ≡ 10) ⊎ (unit ≡ 13)

-- The line is the units up to the first that ends it, and that end.
pub record IsLine (text end rest : List ℕ) : Type 0 where
  pub inside : All IsInside text
  pub ends : IsEnd end rest
