-- Where encoding a prefix of some bytes stopped.
use Rattle.std.specs.Prelude.{◌≡◌, ℕ, ◌⊎◌, List, [], ◌∷◌, ◌++◌, Option, Some, None}
use Rattle.wide_forms.specs.EncodingForm.{Utf16, IsHighSurrogate}
use Rattle.wide_utf16_to_utf8.specs.Encoded.{IsUnpaired}
use Rattle.wide_bytes.specs.Bytes.{unit_in, units_in}
use Rattle.wide_bytes.specs.declared.order.BoM.{BoM}

-- The first unit of the bytes is an unpaired surrogate, whatever follows the bytes.
pub record IsCertainFault (order : BoM) (bytes : List ℕ) (u : ℕ) : Type 0 where
  pub with : (more : List ℕ) → (tail : List ℕ) × (units_in order (bytes ++ more) ≡ u ∷ tail) × IsUnpaired u tail

-- The bytes have no whole unit, or only one high surrogate.
abbrev pub IsIncompleteTail : BoM → List ℕ → Type 0
IsIncompleteTail order [] = Unit {0}
IsIncompleteTail order (a ∷ []) = Unit {0}
IsIncompleteTail order (a ∷ b ∷ []) = IsHighSurrogate Utf16 (unit_in order a b)
IsIncompleteTail order (a ∷ b ∷ c ∷ []) = IsHighSurrogate Utf16 (unit_in order a b)
IsIncompleteTail order (a ∷ b ∷ c ∷ d ∷ rest) = ⊥

-- Encoding stopped before these bytes: at a fault, or because no character was complete.
abbrev pub StopsAt : BoM → List ℕ → Option ℕ → Type 0
StopsAt order bytes None = IsIncompleteTail order bytes
StopsAt order bytes (Some u) = IsCertainFault order bytes u

-- What may be left of a chunk before more is read: nothing or half a unit; one high surrogate, with or without half a
-- unit; or one zero unit, which may be the last of the input.
abbrev pub IsPending : BoM → List ℕ → Type 0
IsPending order [] = Unit {0}
IsPending order (a ∷ []) = Unit {0}
IsPending order (a ∷ b ∷ []) = IsHighSurrogate Utf16 (unit_in order a b) ⊎ (unit_in order a b ≡ 0)
IsPending order (a ∷ b ∷ c ∷ []) = IsHighSurrogate Utf16 (unit_in order a b)
IsPending order (a ∷ b ∷ c ∷ d ∷ rest) = ⊥

-- Encoding a chunk stopped before these bytes.
abbrev pub HoldsAt : BoM → List ℕ → Option ℕ → Type 0
HoldsAt order bytes None = IsPending order bytes
HoldsAt order bytes (Some u) = IsCertainFault order bytes u

-- What may be left of a chunk, including a high surrogate before a zero unit.
abbrev pub IsPendingOr : BoM → List ℕ → Type 0
IsPendingOr order [] = Unit {0}
IsPendingOr order (a ∷ []) = Unit {0}
IsPendingOr order (a ∷ b ∷ []) = IsHighSurrogate Utf16 (unit_in order a b) ⊎ (unit_in order a b ≡ 0)
IsPendingOr order (a ∷ b ∷ c ∷ []) = IsHighSurrogate Utf16 (unit_in order a b)
IsPendingOr order (a ∷ b ∷ c ∷ d ∷ []) = IsHighSurrogate Utf16 (unit_in order a b) × (c ≡ 0) × (d ≡ 0)
IsPendingOr order (a ∷ b ∷ c ∷ d ∷ e ∷ rest) = ⊥
