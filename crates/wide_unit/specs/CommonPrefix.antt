-- The units at the beginning of two lists that are the same.
use Rattle.std.specs.Prelude.{◌≡◌, ◌+◌, ◌<◌, ◌≤◌, ℕ, List, length, take}

-- The first `shared` elements of both lists are the same, and those after them are not, if both lists have one.
pub record IsCommonPrefix {A : Type 0} (left right : List A) (shared : ℕ) : Type 0 where
  pub left_within : shared ≤ length left
  pub right_within : shared ≤ length right
  pub same : take shared left ≡ take shared right
  pub longest : shared < length left → shared < length right → ¬ (take (shared + 1) left ≡ take (shared + 1) right)
