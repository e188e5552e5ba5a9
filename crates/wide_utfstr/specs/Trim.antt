-- Characters without the White_Space at their ends (Unicode Character Database, PropList).
use Rattle.std.specs.Prelude.{◌≡◌, ℕ, true, List, [], ◌∷◌, ◌++◌}
use Rattle.std.specs.Char.{is_whitespace}
use Rattle.std.specs.List.{All}

-- The character has the property White_Space.
abbrev pub IsWhiteSpace : ℕ → Type 0
IsWhiteSpace c = is_whitespace c ≡ true

-- The first character, if there is one, is no White_Space.
abbrev pub BeginsWithText : List ℕ → Type 0
BeginsWithText cs = (c : ℕ) (others : List ℕ) → cs ≡ c ∷ others → ¬ (IsWhiteSpace c)

-- The last character, if there is one, is no White_Space.
abbrev pub EndsWithText : List ℕ → Type 0
EndsWithText cs = (c : ℕ) (others : List ℕ) → cs ≡ others ++ c ∷ [] → ¬ (IsWhiteSpace c)

-- The characters `cs` without their longest prefix of White_Space are `rest`.
pub record IsTrimmedStart (cs rest : List ℕ) : Type 0 where
  pub prefix : List ℕ
  pub joined : cs ≡ prefix ++ rest
  pub white : All IsWhiteSpace prefix
  pub longest : BeginsWithText rest

-- The characters `cs` without their longest suffix of White_Space are `rest`.
pub record IsTrimmedEnd (cs rest : List ℕ) : Type 0 where
  pub back : List ℕ
  pub joined : cs ≡ rest ++ back
  pub white : All IsWhiteSpace back
  pub longest : EndsWithText rest

-- The characters `cs` without their longest prefix and their longest suffix of White_Space are `rest`.
pub record IsTrimmed (cs rest : List ℕ) : Type 0 where
  pub prefix : List ℕ
  pub back : List ℕ
  pub joined : cs ≡ prefix ++ (rest ++ back)
  pub white_prefix : All IsWhiteSpace prefix
  pub white_back : All IsWhiteSpace back
  pub first : BeginsWithText rest
  pub last : EndsWithText rest

-- `rest` is a suffix of the units.
abbrev pub IsBackOf : {C : Type 0} → List C → List C → Type 0
IsBackOf {C} us rest = (prefix : List C) × (us ≡ prefix ++ rest)

-- `rest` is a prefix of the units.
abbrev pub IsPrefixOf : {C : Type 0} → List C → List C → Type 0
IsPrefixOf {C} us rest = (back : List C) × (us ≡ rest ++ back)

-- `rest` is a sublist of the units, between a prefix and a suffix of them.
abbrev pub IsMiddleOf : {C : Type 0} → List C → List C → Type 0
IsMiddleOf {C} us rest = (prefix : List C) × (back : List C) × (us ≡ prefix ++ (rest ++ back))
