-- What is left of a text that is being read, and what a step of reading it does.
use Rattle.std.specs.Prelude.{◌≡◌, ℕ, ◌+◌, ◌-◌, ◌%◌, ◌<◌, ◌≤◌, Bool, true, false, List, [], ◌∷◌, ◌++◌, drop, length, map, take, Option, Some, None}
use Rattle.wide_forms.specs.EncodingForm.{Utf16}
use Rattle.wide_forms.specs.Items.{IsWellFormed}
use Rattle.wide_forms.specs.Lossy.{ends_in_fault}
use Rattle.wide_forms.specs.Segmentation.{Item, Char, Fault}
use Rattle.wide_unit.specs.CodePoints.{code_points}
use Rattle.wide_schemes.specs.Layouts.{IsBeginning, MayFollow, encoded, items_in, unit_len}
use Rattle.wide_schemes.specs.Schemes.{bom_len, items_from, layout_from, start_len}
use Rattle.wide_forms.specs.declared.policy.Policy.{Policy}
use Rattle.wide_schemes.specs.declared.layout.Layout.{Layout}
use Rattle.wide_schemes.specs.declared.scheme.Scheme.{Scheme}
use Rattle.wide_convert.specs.Positions.{IsAfter, IsPosition}
use Rattle.wide_convert.specs.Texts.{text_by}
use Rattle.wide_convert.specs.declared.reading.Reading.{Reading}
use Rattle.wide_convert.specs.declared.steps.StepEnd.{StepEnd}
use Rattle.wide_convert.specs.declared.window.WindowEnd.{WindowEnd}
use Rattle.wide_convert.specs.declared.window.WindowEnd.TheVariants.{AtEnd, Incomplete, More as WindowMore, NoSpace as WindowNoSpace, Fault as WindowFault}
use Rattle.wide_convert.specs.declared.steps.StepEnd.TheVariants.{More, NeedsInput, NoSpace, Fault as AtFault}

-- Bytes that were read, and that are no item so far.
abbrev pub unread_of : Reading → List ℕ
unread_of reading = take reading.unread_len reading.unread

-- The items of the bytes that follow, in the layout if it is known.
abbrev pub items_after : Option Layout → Reading → List ℕ → List Item
items_after None reading bytes = items_from reading.scheme reading.keeps bytes
items_after (Some layout) reading bytes = items_in layout reading.keeps reading.after_high bytes

-- The items that are left if these bytes follow those that were read.
abbrev pub items_left : Reading → List ℕ → List Item
items_left reading more = items_after reading.layout reading (unread_of reading ++ more)

-- What always holds of a text that is being read.
pub record IsReading (reading : Reading) : Type 0 where
  pub space : length reading.unread ≡ 4
  pub few : reading.unread_len ≤ 4
  pub state : reading.keeps ≡ false → reading.after_high ≡ false
  pub start : reading.layout ≡ None → (reading.after_high ≡ false) × (reading.unread_len ≤ start_len reading.scheme)
  pub no_bom : reading.layout ≡ None → reading.bom ≡ 0
  pub fits : IsPosition reading.position

-- Nothing was read of a text in the scheme.
pub record IsUnread (scheme : Scheme) (keeps : Bool) (policy : Option Policy) (reading : Reading) : Type 0 where
  pub in_scheme : reading.scheme ≡ scheme
  pub halves : reading.keeps ≡ keeps
  pub by_policy : reading.policy ≡ policy
  pub no_fault : reading.after_fault ≡ false
  pub no_layout : reading.layout ≡ None
  pub none : reading.unread_len ≡ 0
  pub no_bom : reading.bom ≡ 0
  pub start : reading.position ≡ record { bytes = 0; items = 0; faults = 0 }
  pub items : (more : List ℕ) → items_left reading more ≡ items_from scheme keeps more

-- What does not change while a text is read.
pub record SameKind (old new : Reading) : Type 0 where
  pub scheme : new.scheme ≡ old.scheme
  pub keeps : new.keeps ≡ old.keeps
  pub policy : new.policy ≡ old.policy

-- Nothing changes but the bytes that were read and are no item.
pub record SameButUnread (old new : Reading) : Type 0 where
  pub scheme : new.scheme ≡ old.scheme
  pub keeps : new.keeps ≡ old.keeps
  pub policy : new.policy ≡ old.policy
  pub layout : new.layout ≡ old.layout
  pub after_high : new.after_high ≡ old.after_high
  pub after_fault : new.after_fault ≡ old.after_fault
  pub bom : new.bom ≡ old.bom
  pub position : new.position ≡ old.position
  pub space : length new.unread ≡ length old.unread

-- The bytes that were read and are no item are not enough to determine the layout, or the beginning of an item.
abbrev pub IsWaiting : Option Layout → Reading → Type 0
IsWaiting None reading = reading.unread_len < start_len reading.scheme
IsWaiting (Some layout) reading = 0 < reading.unread_len → IsBeginning layout (unread_of reading)

-- The text has ended. What was read and is no item is part of a unit.
pub record IsEnded (reading : Reading) : Type 0 where
  pub layout : Layout
  pub known : reading.layout ≡ Some layout
  pub part : reading.unread_len < unit_len layout
  pub no_item : items_left reading [] ≡ []

-- How much is left to read: bytes, and the layout if it is not known.
abbrev pub left_by : Option Layout → ℕ → ℕ
left_by None bytes = bytes + 1
left_by (Some layout) bytes = bytes

abbrev pub much_left : Reading → ℕ → ℕ
much_left reading bytes = left_by reading.layout (reading.unread_len + bytes)

-- The fault at which a step ended, if it did.
abbrev pub fault_at : StepEnd → List Item
fault_at More = []
fault_at NeedsInput = []
fault_at NoSpace = []
fault_at (AtFault unit len) = Fault unit ∷ []

-- The length in bytes of that fault, or 0.
abbrev pub len_at : StepEnd → ℕ
len_at More = 0
len_at NeedsInput = 0
len_at NoSpace = 0
len_at (AtFault unit len) = len

-- The layout was determined, and is that of the whole text, as is the BOM that was passed.
pub record IsStart (old new : Reading) (input : List ℕ) (last : Bool) (layout : Layout) : Type 0 where
  pub layout_is : (more : List ℕ) → MayFollow last more → layout_from old.scheme (unread_of old ++ (input ++ more)) ≡ layout
  pub bom_is : (more : List ℕ) → MayFollow last more → bom_len old.scheme (unread_of old ++ (input ++ more)) ≡ new.bom

-- The layout is not determined, so all bytes are kept.
pub record IsUnopened (old new : Reading) (input : List ℕ) (read : ℕ) : Type 0 where
  pub no_bom : new.bom ≡ 0
  pub bytes : (more : List ℕ) → unread_of old ++ (input ++ more) ≡ unread_of new ++ (drop read input ++ more)

-- The layout of a text that was known stays the same, as does its BOM.
pub record IsOpen (old new : Reading) (layout : Layout) : Type 0 where
  pub known : new.layout ≡ Some layout
  pub bom : new.bom ≡ old.bom

-- What is known of the layout and of the BOM after a step.
abbrev pub StartsStep : Option Layout → Option Layout → Reading → Reading → List ℕ → Bool → ℕ → Type 0
StartsStep None None old new input last read = IsUnopened old new input read
StartsStep None (Some layout) old new input last read = IsStart old new input last layout
StartsStep (Some layout) after old new input last read = IsOpen old new layout

-- The layout is known to be this one, or is not known.
abbrev pub MayBe : Option Layout → Layout → Type 0
MayBe None layout = Unit {0}
MayBe (Some known) layout = known ≡ layout

-- What a step ended at, where `room` units of space are left.
abbrev pub EndsStep : Reading → Reading → List ℕ → Bool → ℕ → ℕ → StepEnd → Type 0
EndsStep old new input last read room More = much_left new (length input - read) < much_left old (length input)
EndsStep old new input last read room NeedsInput = (read ≡ length input) × ((last ≡ true → IsEnded new) × (last ≡ false → IsWaiting new.layout new))
EndsStep old new input last read room NoSpace = (room < 2) × (much_left new (length input - read) ≤ much_left old (length input))
EndsStep old new input last read room (AtFault unit len) = (old.policy ≡ None) × ((layout : Layout) × (new.layout ≡ Some layout))

-- A step read the first `read` bytes of the input, and passed these items, and `us` are the units of their text.
pub record Steps (old new : Reading) (input : List ℕ) (last : Bool) (read : ℕ) (us : List ℕ) (room : ℕ) (end : StepEnd) : Type 0 where
  pub passed : List Item
  pub items : (more : List ℕ) → MayFollow last more → items_left old (input ++ more) ≡ passed ++ items_left new (drop read input ++ more)
  pub text : code_points Utf16 us ≡ text_by old.policy old.after_fault passed
  pub fault : new.after_fault ≡ ends_in_fault old.after_fault passed
  pub moved : IsAfter old.position new.position (old.unread_len + read - new.unread_len) passed
  pub well_formed : old.keeps ≡ false → IsWellFormed Utf16 us
  pub whole : (layout : Layout) → MayBe new.layout layout → (old.unread_len + read - new.unread_len) % unit_len layout ≡ 0
  pub strict : old.policy ≡ None → passed ≡ map Char (code_points Utf16 us) ++ fault_at end
  pub kept : new.unread_len ≤ old.unread_len + read
  pub starts : StartsStep old.layout new.layout old new input last read
  pub spans : old.policy ≡ None → (layout : Layout) → MayBe new.layout layout → old.bom + (old.unread_len + read - new.unread_len) ≡ new.bom + (length (encoded layout (code_points Utf16 us)) + len_at end)
  pub ends : EndsStep old new input last read room end

-- Why a step ended, where a window did, before the input did.
abbrev pub end_within : WindowEnd → StepEnd
end_within WindowMore = More
end_within AtEnd = More
end_within Incomplete = More
end_within WindowNoSpace = NoSpace
end_within (WindowFault unit len) = AtFault unit len
