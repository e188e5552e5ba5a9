-- What putting a text into a sink leaves there.
use Rattle.std.specs.Prelude.{◌≡◌, ℕ, Bool, true, false, List, ◌++◌, Option, Result, Ok, Err}
use Rattle.std.specs.Io.KnownBytes.{Appends}
use Rattle.wide_error.specs.declared.error.TranscodeError.{TranscodeError}
use Rattle.wide_error.specs.declared.error.TranscodeError.TheVariants.{Utf16, OutOfMemory, OddLength, Read, Write}

-- The list `whole` begins with `prefix`.
abbrev pub IsBeginningOf : List ℕ → List ℕ → Type 0
IsBeginningOf prefix whole = (rest : List ℕ) × (whole ≡ prefix ++ rest)

-- How putting a text ended, by what was put and the flag after it: all of it at Ok, and a prefix if the sink failed.
abbrev pub PutEnds : {T : Type 0} → Result T TranscodeError → Bool → List ℕ → List ℕ → Type 0
PutEnds (Ok u) failed written text = (failed ≡ false) × (written ≡ text)
PutEnds (Err Write) failed written text = (failed ≡ true) × IsBeginningOf written text
PutEnds (Err (Utf16 index item unit)) failed written text = ⊥
PutEnds (Err OutOfMemory) failed written text = ⊥
PutEnds (Err OddLength) failed written text = ⊥
PutEnds (Err Read) failed written text = ⊥

-- Putting a text into a sink that held `pending` before and holds `pending'` after.
abbrev pub PutOf : {T : Type 0} → Option (List ℕ) → Option (List ℕ) → Bool → Result T TranscodeError → List ℕ → Type 0
PutOf pending pending' failed r text = (written : List ℕ) × Appends pending pending' written × PutEnds r failed written text
