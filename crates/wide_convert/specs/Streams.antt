-- A text that is converted from one device to another.
use Rattle.std.specs.Prelude.{◌≡◌, ℕ, ◌+◌, ◌-◌, ◌%◌, ◌^◌, ◌<◌, ◌≤◌, Bool, true, false, List, [], ◌∷◌, ◌++◌, drop, length, map, Option, None, Result, Ok, Err}
use Rattle.std.specs.Io.KnownBytes.{IsAtEnd}
use Rattle.wide_forms.specs.Items.{characters}
use Rattle.wide_forms.specs.Lossy.{ends_in_fault}
use Rattle.wide_forms.specs.Segmentation.{Item, Char, Fault}
use Rattle.wide_bytes.specs.Put.{IsBeginningOf}
use Rattle.wide_schemes.specs.Layouts.{MayFollow, encoded, unit_len}
use Rattle.wide_schemes.specs.declared.layout.Layout.{Layout}
use Rattle.wide_convert.specs.Converting.{IsFaultHere}
use Rattle.wide_convert.specs.Positions.{IsAfter}
use Rattle.wide_convert.specs.Steps.{IsEnded, IsWaiting, MayBe, SameKind, StartsStep, items_left}
use Rattle.wide_convert.specs.Texts.{text_by}
use Rattle.wide_convert.specs.declared.reading.Reading.{Reading}
use Rattle.wide_convert.specs.declared.error.ConvertError.{ConvertError}
use Rattle.wide_convert.specs.declared.error.ConvertError.TheVariants.{Fault as AtFault, PartOfUnit, TooLong, Read, Write}

-- What was passed so far: items, the last ones these faults, of `len` bytes, and the text that was written.
pub record SoFar (r s : Reading) (to : Layout) (input : List ℕ) (last : Bool) (read : ℕ) (written : List ℕ) (faults : List Item) (len : ℕ) : Type 0 where
  pub passed : List Item
  pub items : (more : List ℕ) → MayFollow last more → items_left r (input ++ more) ≡ passed ++ items_left s (drop read input ++ more)
  pub text : written ≡ encoded to (text_by r.policy r.after_fault passed)
  pub fault : s.after_fault ≡ ends_in_fault r.after_fault passed
  pub moved : IsAfter r.position s.position (r.unread_len + read - s.unread_len) passed
  pub strict : r.policy ≡ None → passed ≡ map Char (characters passed) ++ faults
  pub same : SameKind r s
  pub kept : s.unread_len ≤ r.unread_len + read
  pub starts : StartsStep r.layout s.layout r s input last read
  pub whole : (layout : Layout) → MayBe s.layout layout → (r.unread_len + read - s.unread_len) % unit_len layout ≡ 0
  pub spans : r.policy ≡ None → (layout : Layout) → MayBe s.layout layout → r.bom + (r.unread_len + read - s.unread_len) ≡ s.bom + (length (encoded layout (characters passed)) + len)

-- Some bytes of a text were read, of which `rest` is left, and the text of the others was written.
pub record Flows (r s : Reading) (to : Layout) (bytes : List ℕ) (last : Bool) (rest written : List ℕ) : Type 0 where
  pub read : ℕ
  pub within : read ≤ length bytes
  pub left : drop read bytes ≡ rest
  pub so_far : SoFar r s to bytes last read written [] 0

-- All bytes of a text were read.
pub record IsDone (r s : Reading) (to : Layout) (bytes : List ℕ) (last : Bool) (written : List ℕ) : Type 0 where
  pub so_far : SoFar r s to bytes last (length bytes) written [] 0
  pub ended : last ≡ true → IsEnded s
  pub waits : last ≡ false → IsWaiting s.layout s

-- The text before a fault was written.
pub record IsAtFault (r s : Reading) (to : Layout) (bytes : List ℕ) (last : Bool) (written : List ℕ) (unit len : ℕ) : Type 0 where
  pub read : ℕ
  pub within : read ≤ length bytes
  pub strict : r.policy ≡ None
  pub so_far : SoFar r s to bytes last read written (Fault unit ∷ []) len

-- A prefix of the text of some bytes was written.
pub record IsCut (r s : Reading) (to : Layout) (bytes : List ℕ) (last : Bool) (written : List ℕ) : Type 0 where
  pub read : ℕ
  pub within : read ≤ length bytes
  pub text : List ℕ
  pub faults : List Item
  pub len : ℕ
  pub so_far : SoFar r s to bytes last read text faults len
  pub beginning : IsBeginningOf written text

-- How a run from a source to a sink ended, where `ended` says whether the source has.
abbrev pub EndsStream : {T : Type 0} → Reading → Reading → Layout → Result T ConvertError → Bool → List ℕ → List ℕ → Type 0
EndsStream r s to (Ok u) ended bytes written = (ended ≡ true) × (IsDone r s to bytes true written × (s.unread_len ≡ 0))
EndsStream r s to (Err PartOfUnit) ended bytes written = (ended ≡ true) × (IsDone r s to bytes true written × (0 < s.unread_len))
EndsStream r s to (Err (AtFault fault)) ended bytes written = (len : ℕ) × (IsAtFault r s to bytes ended written fault.unit len × IsFaultHere s len fault)
EndsStream r s to (Err Read) ended bytes written = IsDone r s to bytes false written
EndsStream r s to (Err Write) ended bytes written = IsCut r s to bytes ended written
EndsStream r s to (Err TooLong) ended bytes written = (2 ^ 64 ≤ length bytes + length written) × IsCut r s to bytes ended written

-- The result at the end of a text of which so many bytes are kept.
abbrev pub IsEndOfText : {T : Type 0} → Result T ConvertError → ℕ → Type 0
IsEndOfText (Ok u) kept = kept ≡ 0
IsEndOfText (Err PartOfUnit) kept = 0 < kept
IsEndOfText (Err (AtFault fault)) kept = ⊥
IsEndOfText (Err TooLong) kept = ⊥
IsEndOfText (Err Read) kept = ⊥
IsEndOfText (Err Write) kept = ⊥

-- No byte is left if the run read to the end: at Ok and at part of a unit.
abbrev pub IsReadUp : {T : Type 0} → Result T ConvertError → Option (List ℕ) → Type 0
IsReadUp (Ok u) left = IsAtEnd left
IsReadUp (Err PartOfUnit) left = IsAtEnd left
IsReadUp (Err (AtFault fault)) left = Unit {0}
IsReadUp (Err TooLong) left = Unit {0}
IsReadUp (Err Read) left = Unit {0}
IsReadUp (Err Write) left = Unit {0}

-- The run failed at a read.
abbrev pub fails_to_read : {T : Type 0} → Result T ConvertError → Bool
fails_to_read (Ok u) = false
fails_to_read (Err (AtFault fault)) = false
fails_to_read (Err PartOfUnit) = false
fails_to_read (Err TooLong) = false
fails_to_read (Err Read) = true
fails_to_read (Err Write) = false

-- The run failed at a write.
abbrev pub fails_to_write : {T : Type 0} → Result T ConvertError → Bool
fails_to_write (Ok u) = false
fails_to_write (Err (AtFault fault)) = false
fails_to_write (Err PartOfUnit) = false
fails_to_write (Err TooLong) = false
fails_to_write (Err Read) = false
fails_to_write (Err Write) = true

-- How putting a text ended: all of it was put, or a prefix if the sink failed.
abbrev pub PutsText : {T : Type 0} → Result T ConvertError → Bool → List ℕ → List ℕ → Type 0
PutsText (Ok u) failed written text = (failed ≡ false) × (written ≡ text)
PutsText (Err Write) failed written text = (failed ≡ true) × IsBeginningOf written text
PutsText (Err (AtFault fault)) failed written text = ⊥
PutsText (Err PartOfUnit) failed written text = ⊥
PutsText (Err TooLong) failed written text = ⊥
PutsText (Err Read) failed written text = ⊥
