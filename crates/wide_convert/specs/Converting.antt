-- A conversion of a text, piece by piece.
use Rattle.std.specs.Prelude.{◌≡◌, ℕ, ◌+◌, ◌-◌, ◌<◌, Bool, true, false, List, [], ◌∷◌, ◌++◌, drop, length, map, if◌then◌else◌, Some, None, ◌%◌, ◌≤◌}
use Rattle.wide_forms.specs.Items.{characters}
use Rattle.wide_forms.specs.Lossy.{ends_in_fault}
use Rattle.wide_forms.specs.Segmentation.{Item, Char, Fault}
use Rattle.wide_schemes.specs.Layouts.{MayFollow, encoded, needs_text, unit_len}
use Rattle.wide_schemes.specs.declared.layout.Layout.{Layout}
use Rattle.wide_convert.specs.Positions.{IsAfter}
use Rattle.wide_convert.specs.declared.position.Position.{Position}
use Rattle.wide_convert.specs.declared.converter.TextFault.{TextFault}
use Rattle.wide_convert.specs.Steps.{IsEnded, IsReading, IsWaiting, MayBe, SameKind, StartsStep, items_left}
use Rattle.wide_convert.specs.Texts.{text_by}
use Rattle.wide_convert.specs.declared.reading.Reading.{Reading}
use Rattle.wide_convert.specs.declared.converter.ProgressEnd.{ProgressEnd}
use Rattle.wide_convert.specs.declared.converter.ProgressEnd.TheVariants.{NeedsInput, NoSpace, Fault as AtFault}

-- The bytes of a BOM (section 23.8) that has to be written.
abbrev pub bom_bytes : Layout → Bool → List ℕ
bom_bytes layout bom = if bom then encoded layout (0xFEFF ∷ []) else []

-- The fault at which a conversion stopped, if it did.
abbrev pub fault_in : ProgressEnd → List Item
fault_in NeedsInput = []
fault_in NoSpace = []
fault_in (AtFault fault) = Fault fault.unit ∷ []

-- The fault that was just passed, and has so many bytes.
abbrev pub fault_before : Position → ℕ → ℕ → TextFault
fault_before position unit len = record { offset = position.bytes - len; item = position.items - 1; unit = unit }

-- A fault of `len` bytes was just passed, in a text whose layout is known.
pub record IsFaultHere (new : Reading) (len : ℕ) (fault : TextFault) : Type 0 where
  pub layout : Layout
  pub known : new.layout ≡ Some layout
  pub fault_is : fault ≡ fault_before new.position fault.unit len

-- What a conversion stopped at, where `room` bytes of space are left.
abbrev pub EndsFeed : Reading → Reading → List ℕ → Bool → ℕ → ℕ → ℕ → ProgressEnd → Type 0
EndsFeed old new input last read len room NeedsInput = (len ≡ 0) × ((read ≡ length input) × ((last ≡ true → IsEnded new) × (last ≡ false → IsWaiting new.layout new)))
EndsFeed old new input last read len room NoSpace = (len ≡ 0) × (room < 8)
EndsFeed old new input last read len room (AtFault fault) = (old.policy ≡ None) × IsFaultHere new len fault

-- The first `read` bytes of the input were read and passed as these items, whose text was written in a layout.
pub record Feeds (old new : Reading) (to : Layout) (input : List ℕ) (last : Bool) (read : ℕ) (written : List ℕ) (room : ℕ) (end : ProgressEnd) : Type 0 where
  pub passed : List Item
  pub items : (more : List ℕ) → MayFollow last more → items_left old (input ++ more) ≡ passed ++ items_left new (drop read input ++ more)
  pub text : written ≡ encoded to (text_by old.policy old.after_fault passed)
  pub fault : new.after_fault ≡ ends_in_fault old.after_fault passed
  pub moved : IsAfter old.position new.position (old.unread_len + read - new.unread_len) passed
  pub strict : old.policy ≡ None → passed ≡ map Char (characters passed) ++ fault_in end
  pub starts : StartsStep old.layout new.layout old new input last read
  pub whole : (layout : Layout) → MayBe new.layout layout → (old.unread_len + read - new.unread_len) % unit_len layout ≡ 0
  pub kept : new.unread_len ≤ old.unread_len + read
  pub len : ℕ
  pub spans : old.policy ≡ None → (layout : Layout) → MayBe new.layout layout → old.bom + (old.unread_len + read - new.unread_len) ≡ new.bom + (length (encoded layout (characters passed)) + len)
  pub ends : EndsFeed old new input last read len room end

-- A converter, as its contracts see it.
pub record Converting : Type 0 where
  pub reading : Reading
  pub to : Layout
  pub bom : Bool

-- What always holds of a converter: in UTF-32 nothing but characters can be written.
pub record IsConverting (c : Converting) : Type 0 where
  pub ready : IsReading c.reading
  pub text : needs_text c.to ≡ true → c.reading.keeps ≡ false

-- The BOM that a converter still has to write.
abbrev pub bom_left : Converting → List ℕ
bom_left c = bom_bytes c.to c.bom

-- The items of the text, from now on, if these bytes follow.
abbrev pub items_of : Converting → List ℕ → List Item
items_of c more = items_left c.reading more

-- The position that a converter has reached.
abbrev pub position_of : Converting → Position
position_of c = c.reading.position

-- The text of items that a converter passes.
abbrev pub text_of : Converting → List Item → List ℕ
text_of c is = encoded c.to (text_by c.reading.policy c.reading.after_fault is)

-- What was read and is no item so far.
abbrev pub kept_len : Converting → ℕ
kept_len c = c.reading.unread_len

-- A converter read the first `read` bytes of the input and passed these items, whose text was written after a BOM.
pub record Pushes (old new : Converting) (input : List ℕ) (last : Bool) (read : ℕ) (written : List ℕ) (room : ℕ) (end : ProgressEnd) : Type 0 where
  pub passed : List Item
  pub items : (more : List ℕ) → MayFollow last more → items_of old (input ++ more) ≡ passed ++ items_of new (drop read input ++ more)
  pub text : bom_left old ++ text_of old passed ≡ written ++ bom_left new
  pub fault : new.reading.after_fault ≡ ends_in_fault old.reading.after_fault passed
  pub moved : IsAfter (position_of old) (position_of new) (kept_len old + read - kept_len new) passed
  pub strict : old.reading.policy ≡ None → passed ≡ map Char (characters passed) ++ fault_in end
  pub starts : StartsStep old.reading.layout new.reading.layout old.reading new.reading input last read
  pub whole : (layout : Layout) → MayBe new.reading.layout layout → (kept_len old + read - kept_len new) % unit_len layout ≡ 0
  pub kept : kept_len new ≤ kept_len old + read
  pub len : ℕ
  pub spans : old.reading.policy ≡ None → (layout : Layout) → MayBe new.reading.layout layout → old.reading.bom + (kept_len old + read - kept_len new) ≡ new.reading.bom + (length (encoded layout (characters passed)) + len)
  pub same : SameKind old.reading new.reading
  pub to : new.to ≡ old.to
  pub mark : (end ≡ NoSpace → ⊥) → new.bom ≡ false
  pub ends : EndsFeed old.reading new.reading input last read len room end
