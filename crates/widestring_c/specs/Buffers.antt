-- What a conversion leaves in a buffer of the caller: the text, if the buffer is long enough, and otherwise elements
-- that no definition states.
use Rattle.std.specs.Prelude.{◌≡◌, ◌<◌, ◌≤◌, ◌-◌, ◌^◌, ℕ, List, Option, Some, None, length, map, take, drop}

-- All of the text has `count` elements, fewer than the greatest number, whether it fits or not. If it fits, it is at
-- the start of the buffer. The elements after it are unchanged.
pub record Wrote (all before : List ℕ) (count : ℕ) (after : List ℕ) : Type 0 where
  pub len : count ≡ length all
  pub fits : count < 2 ^ 64 - 1
  pub text : count ≤ length before → take count after ≡ all
  pub beyond : drop count after ≡ drop count before

-- The input is valid, and its text was written, or it is not, and the buffer is unchanged.
abbrev pub WroteIf : Type 0 → List ℕ → List ℕ → Option ℕ → List ℕ → Type 0
WroteIf valid all before (Some count) after = valid × Wrote all before count after
WroteIf valid all before None after = (valid → ⊥) × (after ≡ before)

-- The result has `count` units, fewer than the greatest number, whether it fits or not. If it fits, it is at the start
-- of the buffer. The units after it are unchanged.
pub record WroteUnits {X : Type 0} (number : X → ℕ) (all : List ℕ) (before : List X) (count : ℕ) (after : List X) : Type 0 where
  pub len : count ≡ length all
  pub fits : count < 2 ^ 64 - 1
  pub units : count ≤ length before → map number (take count after) ≡ all
  pub beyond : drop count after ≡ drop count before

-- The input is valid, and its units were written, or it is not, and the buffer is unchanged.
abbrev pub WroteUnitsIf : {X : Type 0} → Type 0 → (X → ℕ) → List ℕ → List X → Option ℕ → List X → Type 0
WroteUnitsIf valid number all before (Some count) after = valid × WroteUnits number all before count after
WroteUnitsIf valid number all before None after = (valid → ⊥) × (after ≡ before)
