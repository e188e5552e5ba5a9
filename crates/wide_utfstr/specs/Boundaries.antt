-- The character boundaries around an offset in well-formed units.
use Rattle.std.specs.Prelude.{◌≡◌, ◌≤◌, ℕ, List, length}
use Rattle.wide_forms.specs.EncodingForm.{EncodingForm}
use Rattle.wide_forms.specs.Offsets.{IsCharBoundary}

-- The last boundary at or before the offset.
pub record IsFloorBoundary (form : EncodingForm) (units : List ℕ) (offset at : ℕ) : Type 0 where
  pub boundary : IsCharBoundary form units at
  pub within : at ≤ offset
  pub greatest : (other : ℕ) → IsCharBoundary form units other → other ≤ offset → other ≤ at

-- The first boundary at or after the offset, or the end if the offset is past the end.
pub record IsCeilBoundary (form : EncodingForm) (units : List ℕ) (offset at : ℕ) : Type 0 where
  pub boundary : IsCharBoundary form units at
  pub not_before : offset ≤ length units → offset ≤ at
  pub least : (other : ℕ) → IsCharBoundary form units other → offset ≤ other → at ≤ other
  pub past : length units ≤ offset → at ≡ length units
