-- Characters with the offset, in units, at which each begins.
use Rattle.std.specs.Prelude.{ℕ, ◌+◌, List, [], ◌∷◌, length}
use Rattle.wide_forms.specs.EncodingForm.{EncodingForm, code_units}

-- Each character with its offset, in units: the first at `offset`, and each next one after the units of the one before.
abbrev pub indexed_chars : EncodingForm → ℕ → List ℕ → List (ℕ × ℕ)
indexed_chars form offset [] = []
indexed_chars form offset (c ∷ cs) = (offset, c) ∷ indexed_chars form (offset + length (code_units form c)) cs
