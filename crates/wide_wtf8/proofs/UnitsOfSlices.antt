-- The units of a slice have 16 bits.
use Rattle.std.proofs.Common.{ℕ, suc, List, [], ◌∷◌, Fits, w16}
use Rattle.std.specs.List.{All}
use Rattle.std.proofs.lemmas.List.Elements.{All-cons, All-nil}
use Rattle.wide_forms.specs.EncodingForm.{Utf16, IsCodeUnit}
use Rattle.std.specs.Prelude.{slice_index}

pub all-units : (us : List ℕ) → ((i : ℕ) → Fits w16 (slice_index us i)) → All (IsCodeUnit Utf16) us
all-units [] fits = All-nil (IsCodeUnit Utf16)
all-units (u ∷ us) fits = All-cons (IsCodeUnit Utf16) u us (fits 0).fits (all-units us (λ i. fits (suc i)))
