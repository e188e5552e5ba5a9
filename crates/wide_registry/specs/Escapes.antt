-- What the text of a string in quotes means, and where it ends.
use Rattle.std.specs.Prelude.{ℕ, List, [], ◌∷◌, Bool, true, false, not, ◌||◌, if◌then◌else◌, ◌==◌}

-- What a unit after a backslash means: `n` and `r` are line ends, and others are themselves.
abbrev pub meaning_of : ℕ → ℕ
meaning_of unit = if unit == 0x6e then 0xa else if unit == 0x72 then 0xd else unit

-- The text of a string without its backslashes, but for those that a backslash escapes.
abbrev pub unescaped : List ℕ → List ℕ
unescaped [] = []
unescaped (unit ∷ []) = unit ∷ []
unescaped (unit ∷ next ∷ rest) =
    if unit == 0x5c then meaning_of next ∷ unescaped rest else unit ∷ unescaped (next ∷ rest)

-- Whether a text has a quote that no backslash escapes.
abbrev pub has_quote : List ℕ → Bool
has_quote [] = false
has_quote (unit ∷ []) = unit == 0x22
has_quote (unit ∷ next ∷ rest) =
    if unit == 0x5c then has_quote rest else if unit == 0x22 then true else has_quote (next ∷ rest)

-- Whether a unit may be behind a backslash: `"`, `\`, `n` or `r`.
abbrev pub is_escape : ℕ → Bool
is_escape unit = unit == 0x22 || unit == 0x5c || unit == 0x6e || unit == 0x72

-- Whether each backslash of a text escapes a unit that may be behind it.
abbrev pub has_good_escapes : List ℕ → Bool
has_good_escapes [] = true
has_good_escapes (unit ∷ []) = not (unit == 0x5c)
has_good_escapes (unit ∷ next ∷ rest) =
    if unit == 0x5c then if is_escape next then has_good_escapes rest else false else has_good_escapes (next ∷ rest)
