-- What bytes become in another encoding scheme, and how a run that converts them ends.
use Rattle.std.specs.Prelude.{◌≡◌, ℕ, ◌+◌, ◌%◌, ◌^◌, ◌<◌, ◌≤◌, ◌⊎◌, Bool, true, false, List, ◌++◌, length, map, nat_eq, if◌then◌else◌, Option, Some, None, Result, Ok, Err}
use Rattle.wide_forms.specs.Items.{characters, first_fault_unit, leading_characters}
use Rattle.wide_forms.specs.Lossy.{lossy_by}
use Rattle.wide_forms.specs.Segmentation.{Item, Char}
use Rattle.wide_forms.specs.declared.policy.Policy.{Policy}
use Rattle.wide_bytes.specs.Put.{IsBeginningOf}
use Rattle.wide_schemes.specs.Layouts.{IsBeginning, encoded, items_in, unit_len}
use Rattle.wide_schemes.specs.declared.layout.Layout.{Layout}
use Rattle.wide_schemes.specs.Schemes.{bom_len, items_from, keeps_halves, layout_from, layout_to, start_len}
use Rattle.wide_schemes.specs.declared.scheme.Scheme.{Scheme}
use Rattle.wide_convert.specs.Converting.{bom_bytes}
use Rattle.wide_convert.specs.Positions.{counted}
use Rattle.wide_convert.specs.Texts.{faults_in, text_by}
use Rattle.wide_convert.specs.declared.converter.TextFault.{TextFault}
use Rattle.wide_convert.specs.declared.error.ConvertError.{ConvertError}
use Rattle.wide_convert.specs.declared.error.ConvertError.TheVariants.{Fault, PartOfUnit, TooLong, Read, Write}

-- How a text ends: without a fault, with part of a unit left, or at a fault, given by its offset in bytes, its item
-- number and its unit.
pub data Ending : Type 0 where
  Clean : Ending
  Part : Ending
  Faulty : ℕ → ℕ → ℕ → Ending

-- What a text becomes: the bytes that are written, and how it ends.
pub record Converted : Type 0 where
  pub text : List ℕ
  pub ending : Ending

-- The characters and faults of a text that is converted from one scheme to another.
abbrev pub items_read : Scheme → Scheme → List ℕ → List Item
items_read from to bytes = items_from from (keeps_halves from to) bytes

-- The text of characters in a scheme, after a BOM if one is written.
abbrev pub text_in : Scheme → Bool → List ℕ → List ℕ
text_in to bom cs = bom_bytes (layout_to to) bom ++ encoded (layout_to to) cs

-- The characters that are written: the lossy text, or without a policy those before the first fault.
abbrev pub characters_by : Option Policy → List Item → List ℕ
characters_by None is = leading_characters is
characters_by (Some policy) is = lossy_by policy is

-- The unit of the fault that is reported: without a policy the first one.
abbrev pub fault_by : Option Policy → List Item → Option ℕ
fault_by None is = first_fault_unit is
fault_by (Some policy) is = None

-- How a text ends without a fault, given the length of what is left after its whole units.
abbrev pub ending_of_part : ℕ → Ending
ending_of_part left = if nat_eq left 0 then Clean else Part

-- How a text ends, given the unit of its first fault. The bytes before that are a BOM and those of the characters.
abbrev pub ending_at : Scheme → Option ℕ → List Item → List ℕ → Ending
ending_at from None is bytes = ending_of_part (length bytes % unit_len (layout_from from bytes))
ending_at from (Some unit) is bytes =
    Faulty (bom_len from bytes + length (encoded (layout_from from bytes) (leading_characters is))) (length (leading_characters is)) unit

-- What a text becomes.
abbrev pub converted : Scheme → Scheme → Option Policy → Bool → List ℕ → Converted
converted from to policy bom bytes = record {
  text = text_in to bom (characters_by policy (items_read from to bytes));
  ending = ending_at from (fault_by policy (items_read from to bytes)) (items_read from to bytes) bytes;
}

-- The text was written up to the fault, which no further bytes would undo.
pub record IsFaultReported (meaning : List ℕ → Converted) (ended : Bool) (bytes written : List ℕ) (fault : TextFault) : Type 0 where
  pub text : (meaning bytes).text ≡ written
  pub ending : length bytes + 1 < 2 ^ 64 → (meaning bytes).ending ≡ Faulty fault.offset fault.item fault.unit
  pub certain : (ended ≡ true) ⊎ ((more : List ℕ) → meaning (bytes ++ more) ≡ meaning bytes)

-- The text was written but for that of at most four bytes: too few for a BOM, or the beginning of a character or of a
-- unit. Without a policy it has no fault so far.
pub record IsAllButKept (from to : Scheme) (policy : Option Policy) (bom : Bool) (bytes written : List ℕ) : Type 0 where
  pub passed : List Item
  pub kept : List ℕ
  pub few : length kept ≤ 4
  pub layout : Layout
  pub after_high : Bool
  pub items : items_read from to bytes ≡ passed ++ items_in layout (keeps_halves from to) after_high kept
  pub text : written ≡ text_in to bom (text_by policy false passed)
  pub begins : 0 < length kept → (length bytes < start_len from) ⊎ IsBeginning layout kept
  pub no_fault : policy ≡ None → passed ≡ map Char (characters passed)

-- How a run of `convert` ended, by whether the source has ended. The text is complete at Ok, at part of a unit and at a
-- fault. If a read failed, what was written is a prefix of the text whatever might have followed, and lacks little of
-- it. Otherwise it is a prefix of the text.
abbrev pub EndsConverted : Scheme → Scheme → Option Policy → Bool → Result ℕ ConvertError → Bool → List ℕ → List ℕ → Type 0
EndsConverted from to policy bom (Ok faults) ended bytes written =
    (ended ≡ true) × ((converted from to policy bom bytes ≡ record { text = written; ending = Clean }) × (faults ≡ counted 0 (faults_in (items_read from to bytes))))
EndsConverted from to policy bom (Err PartOfUnit) ended bytes written = (ended ≡ true) × (converted from to policy bom bytes ≡ record { text = written; ending = Part })
EndsConverted from to policy bom (Err (Fault fault)) ended bytes written = IsFaultReported (converted from to policy bom) ended bytes written fault
EndsConverted from to policy bom (Err TooLong) ended bytes written = (2 ^ 64 ≤ length bytes + length written) × IsBeginningOf written (converted from to policy bom bytes).text
EndsConverted from to policy bom (Err Read) ended bytes written =
    ((more : List ℕ) → IsBeginningOf written (converted from to policy bom (bytes ++ more)).text) × IsAllButKept from to policy bom bytes written
EndsConverted from to policy bom (Err Write) ended bytes written = IsBeginningOf written (converted from to policy bom bytes).text
