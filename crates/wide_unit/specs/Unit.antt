-- Definitions for the contract of `Unit`, and for code that depends on it.
use Rattle.std.specs.Prelude.{ℕ, List, [], ◌∷◌, Option, Some, None, Result, Ok, Err}
use Rattle.wide_forms.specs.Segmentation.{Item, Char, Fault}

-- A first unit, and a second if there is one, as a list of numbers.
abbrev pub numbers_of : {C : Type 0} → (C → ℕ) → C → Option C → List ℕ
numbers_of number u None = number u ∷ []
numbers_of number u (Some v) = number u ∷ number v ∷ []

-- The item that a decoder's result represents.
abbrev pub item_of : {C : Type 0} → (C → ℕ) → Result ℕ C → Item
item_of number (Ok c) = Char c
item_of number (Err u) = Fault (number u)

-- The item of a result that reports a fault by its number.
abbrev pub reported_item : Result ℕ ℕ → Item
reported_item r = item_of (λ u. u) r
