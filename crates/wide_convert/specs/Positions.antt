-- Positions in a text, which count up to 2^64 - 1.
use Rattle.std.specs.Prelude.{◌≡◌, ℕ, ◌+◌, ◌-◌, ◌^◌, ◌<◌, List, length, min}
use Rattle.wide_forms.specs.Segmentation.{Item}
use Rattle.wide_convert.specs.Texts.{faults_in}
use Rattle.wide_convert.specs.declared.position.Position.{Position}

-- A number and so many more, at most the greatest of 64 bits.
abbrev pub counted : ℕ → ℕ → ℕ
counted n more = min (n + more) (2 ^ 64 - 1)

-- The position after so many more bytes, which are these items.
pub record IsAfter (old new : Position) (bytes : ℕ) (passed : List Item) : Type 0 where
  pub after_bytes : new.bytes ≡ counted old.bytes bytes
  pub after_items : new.items ≡ counted old.items (length passed)
  pub after_faults : new.faults ≡ counted old.faults (faults_in passed)

-- The numbers have 64 bits.
pub record IsPosition (position : Position) : Type 0 where
  pub bytes : position.bytes < 2 ^ 64
  pub items : position.items < 2 ^ 64
  pub faults : position.faults < 2 ^ 64
