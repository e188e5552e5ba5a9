-- The units of a C string that a constructor makes of a list of units.
use Rattle.std.specs.Prelude.{◌≡◌, ℕ, ◌+◌, ◌-◌, List, [], ◌∷◌, ◌++◌, length, take, ◌⊎◌}
use Rattle.wide_unit.specs.Nul.{NoNulBefore, HasNoNul, IsFirstNul}
use Rattle.wide_ucstr.specs.CString.{EndsInNul}

-- No unit before the last one is a NUL.
abbrev pub HasNoInnerNul : List ℕ → Type 0
HasNoInnerNul us = NoNulBefore us (length us - 1)

-- The C string has the given units if they end in a NUL, and otherwise these units and a NUL.
abbrev pub EndsAsGiven : List ℕ → List ℕ → Type 0
EndsAsGiven us made = (EndsInNul us × (made ≡ us)) ⊎ ((¬ (EndsInNul us)) × (made ≡ us ++ 0 ∷ []))

-- The C string has the units up to and including the first NUL, or all of them and a NUL if there is none.
abbrev pub EndsAtFirst : List ℕ → List ℕ → Type 0
EndsAtFirst us made = ((offset : ℕ) × IsFirstNul us offset × (made ≡ take (offset + 1) us)) ⊎ (HasNoNul us × (made ≡ us ++ 0 ∷ []))
