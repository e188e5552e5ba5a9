-- What decoding a window of a text does.
use Rattle.std.specs.Prelude.{◌≡◌, ℕ, ◌+◌, ◌%◌, ◌<◌, Bool, true, false, List, [], ◌∷◌, ◌++◌, drop, map, Option, Some, None, length}
use Rattle.wide_forms.specs.EncodingForm.{Utf16}
use Rattle.wide_forms.specs.Items.{IsWellFormed}
use Rattle.wide_forms.specs.Lossy.{ends_in_fault, replacement}
use Rattle.wide_forms.specs.declared.policy.Policy.{Policy}
use Rattle.wide_forms.specs.Segmentation.{Item, Char, Fault}
use Rattle.wide_unit.specs.CodePoints.{code_points}
use Rattle.wide_schemes.specs.Layouts.{IsIncomplete, MayFollow, encoded, items_in, unit_len}
use Rattle.wide_schemes.specs.declared.layout.Layout.{Layout}
use Rattle.wide_convert.specs.Positions.{IsAfter}
use Rattle.wide_convert.specs.Texts.{text_by}
use Rattle.wide_convert.specs.declared.reading.Reading.{Reading}
use Rattle.wide_convert.specs.declared.window.WindowEnd.{WindowEnd}
use Rattle.wide_convert.specs.declared.window.WindowEnd.TheVariants.{More, AtEnd, NoSpace, Incomplete, Fault as AtFault}

-- What does not change while a text is read, and the bytes that were read and belong to no item.
pub record SameText (old new : Reading) : Type 0 where
  pub scheme : new.scheme ≡ old.scheme
  pub keeps : new.keeps ≡ old.keeps
  pub policy : new.policy ≡ old.policy
  pub layout : new.layout ≡ old.layout
  pub unread : new.unread ≡ old.unread
  pub unread_len : new.unread_len ≡ old.unread_len
  pub bom : new.bom ≡ old.bom

-- The first `read` bytes are these items, and `us` are the units of their text.
pub record Passes (layout : Layout) (old new : Reading) (bytes : List ℕ) (last : Bool) (read : ℕ) (us : List ℕ) (passed : List Item) : Type 0 where
  pub items : (more : List ℕ) → MayFollow last more → items_in layout old.keeps old.after_high (bytes ++ more) ≡ passed ++ items_in layout old.keeps new.after_high (drop read bytes ++ more)
  pub text : code_points Utf16 us ≡ text_by old.policy old.after_fault passed
  pub fault : new.after_fault ≡ ends_in_fault old.after_fault passed
  pub moved : IsAfter old.position new.position read passed
  pub well_formed : old.keeps ≡ false → IsWellFormed Utf16 us
  pub whole : read % unit_len layout ≡ 0

-- The first `read` bytes are characters, and `us` are their units.
abbrev pub PassesText : Layout → Reading → Reading → List ℕ → Bool → ℕ → List ℕ → Type 0
PassesText layout old new bytes last read us = Passes layout old new bytes last read us (map Char (code_points Utf16 us))

-- What is written for a fault, or `None` for nothing.
abbrev pub replacement_by : Option Policy → Bool → Option ℕ
replacement_by None after_fault = None
replacement_by (Some policy) after_fault = replacement policy after_fault

-- Why decoding ends after a fault: without a policy because of it.
abbrev pub end_after_fault : Option Policy → ℕ → ℕ → WindowEnd
end_after_fault None unit len = AtFault unit len
end_after_fault (Some policy) unit len = More

-- A fault of `len` bytes was passed, and its text was written.
pub record IsFaultPassed (old new : Reading) (unit len : ℕ) (before after : List ℕ) : Type 0 where
  pub written : after ≡ before ++ text_by old.policy old.after_fault (Fault unit ∷ [])
  pub fault : new.after_fault ≡ true
  pub moved : IsAfter old.position new.position len (Fault unit ∷ [])

-- A fault of `len` bytes was passed, or, if there was no space for its text, nothing.
abbrev pub PassesFault : Reading → Reading → ℕ → ℕ → ℕ → List ℕ → List ℕ → ℕ → WindowEnd → Type 0
PassesFault old new unit len read before after room NoSpace = (new ≡ old) × (read ≡ 0) × (after ≡ before) × (room ≡ 0)
PassesFault old new unit len read before after room More = (end_after_fault old.policy unit len ≡ More) × (read ≡ len) × IsFaultPassed old new unit len before after
PassesFault old new unit len read before after room AtEnd = ⊥
PassesFault old new unit len read before after room Incomplete = ⊥
PassesFault old new unit len read before after room (AtFault unit' len') = (end_after_fault old.policy unit len ≡ AtFault unit' len') × (read ≡ len) × IsFaultPassed old new unit len before after

-- The fault at which decoding ended, if it did.
abbrev pub fault_of : WindowEnd → List Item
fault_of More = []
fault_of AtEnd = []
fault_of NoSpace = []
fault_of Incomplete = []
fault_of (AtFault unit len) = Fault unit ∷ []

-- The length in bytes of that fault, or 0.
abbrev pub len_of : WindowEnd → ℕ
len_of More = 0
len_of AtEnd = 0
len_of NoSpace = 0
len_of Incomplete = 0
len_of (AtFault unit len) = len

-- What decoding a window ended at, before these bytes, where there is space for `room` more units.
abbrev pub EndsWindow : Layout → Reading → Reading → List ℕ → Bool → ℕ → ℕ → WindowEnd → Type 0
EndsWindow layout old new rest last read room AtEnd = rest ≡ []
EndsWindow layout old new rest last read room NoSpace = room < 2
EndsWindow layout old new rest last read room Incomplete = IsIncomplete layout old.keeps new.after_high rest last
EndsWindow layout old new rest last read room More = 0 < read
EndsWindow layout old new rest last read room (AtFault unit len) = (old.policy ≡ None) × (0 < read)

-- Items at the beginning of a window were passed. Without a policy they are characters, and the fault at which decoding
-- ended.
pub record PassesWindow (layout : Layout) (old new : Reading) (bytes : List ℕ) (last : Bool) (read : ℕ) (us : List ℕ) (room : ℕ) (end : WindowEnd) : Type 0 where
  pub passed : List Item
  pub passes : Passes layout old new bytes last read us passed
  pub strict : old.policy ≡ None → passed ≡ map Char (code_points Utf16 us) ++ fault_of end
  pub spans : old.policy ≡ None → read ≡ length (encoded layout (code_points Utf16 us)) + len_of end
  pub ends : EndsWindow layout old new (drop read bytes) last read room end
