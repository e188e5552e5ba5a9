-- Character boundaries, by the unit at an offset, and boundaries between items.
use Rattle.std.proofs.Common.{◌≡◌, ℕ, zero, suc, List, inl, inr, subst, arith, length}
use Rattle.std.specs.Prelude.{◌↔◌, ◌⊎◌}
use Rattle.std.proofs.lemmas.Bool.{cases_lt}
use Rattle.wide_forms.specs.EncodingForm.{EncodingForm}
use Rattle.wide_forms.specs.Items.{IsBoundary, IsWellFormed}
use Rattle.wide_forms.specs.Offsets.{IsTextRange, IsCharBoundary, IsCharRange}
use Rattle.wide_forms.specs.Laws.Boundaries.{IsBoundary-at, IsBoundary-end, no-low_at_boundary}
use Rattle.wide_forms.specs.Laws.Offsets.{IsBoundary-start, IsBoundary-within}

-- In any units, a character boundary is a boundary between items.
pub IsBoundary-of_char : (form : EncodingForm) (us : List ℕ) (offset : ℕ) → IsCharBoundary form us offset → IsBoundary form us offset
IsBoundary-of_char form us zero here = IsBoundary-start form us
IsBoundary-of_char form us (suc n) here = elim (cases_lt (suc n) (length us)) [
  | inl below ↦ IsBoundary-at form us (suc n) here.0 (here.1 (omega arith) below)
  | inr past ↦ let e : length us ≡ suc n = omega (arith, here.0) in subst (λ k. IsBoundary form us k) e (IsBoundary-end form us)
]

-- In any units, a range between character boundaries is one between boundaries of items.
pub IsTextRange-of_chars : (form : EncodingForm) (us : List ℕ) (from to : ℕ) → IsCharRange form us from to → IsTextRange form us from to
IsTextRange-of_chars form us from to part = record { within = part.within; start = IsBoundary-of_char form us from part.start; end = IsBoundary-of_char form us to part.end }

pub past_or_boundary : {P : Type 0} (form : EncodingForm) (us : List ℕ) (offset : ℕ) → P ⊎ IsCharBoundary form us offset → P ⊎ IsBoundary form us offset
past_or_boundary form us offset (inl past) = inl past
past_or_boundary form us offset (inr here) = inr (IsBoundary-of_char form us offset here)

-- What holds of well-formed units.
module _ (form : EncodingForm) (us : List ℕ) where
  -- In well-formed units, a boundary between items is a character boundary.
  pub IsCharBoundary-of : (offset : ℕ) → IsWellFormed form us → IsBoundary form us offset → IsCharBoundary form us offset
  IsCharBoundary-of offset well at = (IsBoundary-within form us offset at, λ some below. no-low_at_boundary form us offset well below at)

  -- In well-formed units, a range between boundaries of items is one between character boundaries.
  pub IsCharRange-of_text : (from to : ℕ) → IsWellFormed form us → IsTextRange form us from to → IsCharRange form us from to
  IsCharRange-of_text from to well part = record { within = part.within; start = IsCharBoundary-of from well part.start; end = IsCharBoundary-of to well part.end }

  -- In well-formed units, a test that is equivalent to `IsBoundary` is equivalent to `IsCharBoundary`.
  pub reports_char_boundary : {T : Type 0} (offset : ℕ) → IsWellFormed form us → T ↔ IsBoundary form us offset → T ↔ IsCharBoundary form us offset
  reports_char_boundary offset well reports = (λ t. IsCharBoundary-of offset well (reports.0 t), λ here. reports.1 (IsBoundary-of_char form us offset here))

  -- In well-formed units, a test that is equivalent to `IsTextRange` is equivalent to `IsCharRange`.
  pub reports_char_range : {T : Type 0} (from to : ℕ) → IsWellFormed form us → T ↔ IsTextRange form us from to → T ↔ IsCharRange form us from to
  reports_char_range from to well reports = (λ t. IsCharRange-of_text from to well (reports.0 t), λ part. reports.1 (IsTextRange-of_chars form us from to part))
