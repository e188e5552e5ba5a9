-- A source whose beginning can be looked at.
use Rattle.std.specs.Prelude.{ℕ, Bool, true, false, List, Option, Some, drop, take}
use Rattle.std.specs.Io.KnownBytes.{prepend_known}
use Rattle.wideconv_command.specs.declared.input.Input.{Input}

-- The source below, which gives what follows the beginning.
abbrev pub source_of : {S : Type 0} → Input S → S
source_of input = input.source

-- The bytes that were looked at and not taken.
abbrev pub head_of : {S : Type 0} → Input S → List ℕ
head_of input = drop input.from (take input.end input.head)

-- A take with a buffer that is not empty has returned 0.
abbrev pub has_taken_end : {S : Type 0} → Input S → Bool
has_taken_end input = input.ended

-- The bytes that are left: those that were looked at, and what the source below has left, which is nothing if it has
-- ended.
abbrev pub left_of : List ℕ → Bool → Option (List ℕ) → Option (List ℕ)
left_of head true left = Some head
left_of head false left = prepend_known head left

-- The bytes that are left, given what the source below says of its end and of its bytes.
abbrev pub left_by : {S : Type 0} → (S → Bool) → (S → Option (List ℕ)) → Input S → Option (List ℕ)
left_by has_ended left input = left_of (head_of input) (has_ended (source_of input)) (left (source_of input))
