-- Units of an argument, read one after another.
use Rattle.std.proofs.Common.{◌≡◌, ℕ, Bool, true, false, List, ◌++◌}
use Rattle.widetext_requests.specs.Command.{AreUnits}

-- After these units of the argument, the rest of it is still to be read, or nothing is.
pub record Reads (word found : List ℕ) (more : Bool) (left : List ℕ) : Type 0 where
  pub goes_on : more ≡ true → (us : List ℕ) → AreUnits left us → AreUnits word (found ++ us)
  pub ends : more ≡ false → AreUnits word found
