-- Lines, their ends, and blanks.
use Rattle.std.specs.Prelude.{ℕ, Bool, false, not, ◌||◌, List, [], ◌∷◌, drop, length, ◌+◌, if◌then◌else◌, ◌==◌}
use Rattle.std.specs.List.{before_first, position_or_len}

-- A carriage return or a line feed.
abbrev pub is_line_end : ℕ → Bool
is_line_end unit = unit == 0xd || unit == 0xa

-- The line end that a text begins with: CR LF, or one unit.
abbrev pub line_end : List ℕ → List ℕ
line_end [] = []
line_end (unit ∷ []) = unit ∷ []
line_end (unit ∷ next ∷ rest) = if unit == 0xd then if next == 0xa then unit ∷ next ∷ [] else unit ∷ [] else unit ∷ []

-- A space, a tab, or U+FEFF.
abbrev pub is_blank : ℕ → Bool
is_blank unit = unit == 0x20 || unit == 0x9 || unit == 0xfeff

-- A line from its first unit on that is no blank.
abbrev pub without_blanks : List ℕ → List ℕ
without_blanks line = drop (position_or_len (λ unit. not (is_blank unit)) line) line

-- What is behind the first line of a text and its end.
abbrev pub behind_line : List ℕ → List ℕ
behind_line text =
    let behind = drop (length (before_first is_line_end text)) text in drop (length (line_end behind)) behind

-- Whether a line begins with a quote or `@`, as values do.
abbrev pub begins_value : List ℕ → Bool
begins_value [] = false
begins_value (unit ∷ rest) = unit == 0x22 || unit == 0x40
