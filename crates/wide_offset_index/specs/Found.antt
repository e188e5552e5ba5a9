-- The offset of a character, and of a range of characters, that a search found.
use Rattle.std.specs.Prelude.{ℕ, ◌≤◌, ◌↔◌, List, length, Option, IsSome, IfSome}
use Rattle.wide_forms.specs.EncodingForm.{EncodingForm}
use Rattle.wide_forms.specs.Items.{chars}
use Rattle.wide_forms.specs.Offsets.{IsOffsetOf, IsCharBoundary, IsCharRange}

module _ (form : EncodingForm) (units : List ℕ) where
  -- The search for the character at an index found the offset at which it begins, or none if the index is past the end.
  pub record IsFoundAt (index : ℕ) (found : Option ℕ) : Type 0 where
    pub some : IsSome found ↔ (index ≤ length (chars form units))
    pub offset : IfSome found (IsOffsetOf form units index)
    pub boundary : IfSome found (IsCharBoundary form units)

  -- The offsets, in units, of the characters from index `from` up to index `to`, which are a range of the text.
  pub record IsFoundRange (from to start end : ℕ) : Type 0 where
    pub forward : from ≤ to
    pub within : to ≤ length (chars form units)
    pub starts : IsOffsetOf form units from start
    pub ends : IsOffsetOf form units to end
    pub range : IsCharRange form units start end
