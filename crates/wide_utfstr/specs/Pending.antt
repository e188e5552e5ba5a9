-- An escape that was partly read.
use Rattle.std.specs.Prelude.{ℕ, List, [], Option, Some, None}

-- What is left of an escape that may have been partly read; nothing if there is none.
abbrev pub pending_rest : {E : Type 0} → (E → List ℕ) → Option E → List ℕ
pending_rest rest None = []
pending_rest rest (Some escape) = rest escape

-- How much is left of an escape that may have been partly read; 0 if there is none.
abbrev pub pending_left : {E : Type 0} → (E → ℕ) → Option E → ℕ
pending_left left None = 0
pending_left left (Some escape) = left escape
