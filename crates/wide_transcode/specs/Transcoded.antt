-- What bytes of UTF-16 become in UTF-8: the Standard's D91, D92 and D98.
use Rattle.std.specs.Prelude.{ℕ, Bool, true, false, List, Option, Some, None}
use Rattle.wide_forms.specs.EncodingForm.{Utf16}
use Rattle.wide_forms.specs.Items.{items, leading_characters, first_fault}
use Rattle.wide_forms.specs.Lossy.{lossy_by}
use Rattle.wide_forms.specs.Utf8.{utf8}
use Rattle.wide_forms.specs.declared.policy.Policy.{Policy}
use Rattle.wide_forms.specs.declared.policy.Policy.TheVariants.{Each}
use Rattle.wide_bytes.specs.Bytes.{units_of_bytes, is_odd}
use Rattle.wide_transcode.specs.declared.mode.Mode.{Mode}
use Rattle.wide_transcode.specs.declared.mode.Mode.TheVariants.{Strict, Lossy}

-- How the bytes end: without a fault, with half a unit left, or at an unpaired surrogate, given by its index in units,
-- its item number and the unit.
pub data Ending : Type 0 where
  Clean : Ending
  HalfUnit : Ending
  Unpaired : ℕ → ℕ → ℕ → Ending

-- What bytes become: the text in UTF-8, and how the bytes end.
pub record Transcoded : Type 0 where
  pub text : List ℕ
  pub ending : Ending

-- How bytes end, given the first fault and whether half a unit is left. A fault takes precedence.
abbrev pub ending_of : Option (ℕ × ℕ × ℕ) → Bool → Ending
ending_of (Some fault) odd = Unpaired fault.0 fault.1 fault.2
ending_of None true = HalfUnit
ending_of None false = Clean

-- What bytes become under a policy: all characters, and what the policy yields for faults. No fault is left.
abbrev pub transcoded_by : Policy → List ℕ → Transcoded
transcoded_by policy bytes =
    let is = items Utf16 (units_of_bytes bytes) in
    record { text = utf8 (lossy_by policy is); ending = ending_of None (is_odd bytes) }

-- What bytes become in each mode. Strict: the characters before the first fault. Lossy: all characters, with U+FFFD for
-- each fault.
abbrev pub transcoded : Mode → List ℕ → Transcoded
transcoded Strict bytes =
    let is = items Utf16 (units_of_bytes bytes) in
    record { text = utf8 (leading_characters is); ending = ending_of (first_fault Utf16 is) (is_odd bytes) }
transcoded Lossy bytes = transcoded_by Each bytes

-- What bytes become under a policy, or strictly if there is none.
abbrev pub transcoded_under : Option Policy → List ℕ → Transcoded
transcoded_under None bytes = transcoded Strict bytes
transcoded_under (Some policy) bytes = transcoded_by policy bytes
