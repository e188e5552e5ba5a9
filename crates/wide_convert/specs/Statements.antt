-- What converting a text piece by piece comes to. Each statement is the contract of a function of `laws`.
use Rattle.std.specs.Prelude.{◌≡◌, ℕ, ◌+◌, ◌%◌, ◌≤◌, Bool, false, true, List, [], ◌++◌, drop, length, Option, None}
use Rattle.std.specs.List.{All}
use Rattle.wide_forms.specs.EncodingForm.{Utf16 as Utf16Form, IsCodeUnit}
use Rattle.wide_forms.specs.declared.policy.Policy.{Policy}
use Rattle.wide_bytes.specs.Bytes.{bytes_in, units_in}
use Rattle.wide_bytes.specs.declared.order.BoM.{BoM}
use Rattle.wide_schemes.specs.Schemes.{bom_len, keeps_halves, layout_from, layout_to}
use Rattle.wide_schemes.specs.Wtf8.{wtf8}
use Rattle.wide_schemes.specs.declared.layout.Layout.TheVariants.{Utf16}
use Rattle.wide_schemes.specs.declared.scheme.Scheme.{Scheme}
use Rattle.wide_schemes.specs.declared.scheme.Scheme.TheVariants.{Wtf8 as Wtf8Scheme}
use Rattle.wide_convert.specs.Converted.{Clean, IsFaultReported, converted, ending_of_part, items_read}
use Rattle.wide_convert.specs.Converting.{Converting, Pushes, fault_in, kept_len, position_of}
use Rattle.wide_convert.specs.Positions.{counted}
use Rattle.wide_convert.specs.Steps.{IsUnread}
use Rattle.wide_convert.specs.Texts.{faults_in}
use Rattle.wide_convert.specs.declared.converter.ProgressEnd.{ProgressEnd}
use Rattle.wide_convert.specs.declared.converter.ProgressEnd.TheVariants.{Fault, NeedsInput}
use Rattle.wide_convert.specs.declared.converter.TextFault.{TextFault}

-- A converter that `Converter::new` made.
pub record IsNew (from to : Scheme) (policy : Option Policy) (bom : Bool) (c : Converting) : Type 0 where
  pub reading : IsUnread from (keeps_halves from to) policy c.reading
  pub layout : c.to ≡ layout_to to
  pub mark : c.bom ≡ bom

-- The input is the next piece of what is left of a text, all of it if it is the last piece.
pub record IsPiece (input : List ℕ) (last : Bool) (left : List ℕ) : Type 0 where
  pub more : List ℕ
  pub begins : left ≡ input ++ more
  pub all : last ≡ true → more ≡ []

-- A converter passed the first `read` bytes of the text, in pieces of any lengths into space of any lengths, without a
-- fault that it stopped at, and wrote this.
pub data Passes (c : Converting) (text : List ℕ) : Converting → ℕ → List ℕ → Type 0 where
  nothing : Passes c text c 0 []
  then : (d e : Converting) (read m room : ℕ) (written input after : List ℕ) (last : Bool) (end : ProgressEnd) → Passes c text d read written → IsPiece input last (drop read text) → m ≤ length input → Pushes d e input last m after room end → fault_in end ≡ [] → Passes c text e (read + m) (written ++ after)

-- Pieces are converted to what the whole text is, whatever the pieces are, once the last one was read to its end.
abbrev pub PiecesAreWhole : Type 0
PiecesAreWhole =
    (from to : Scheme) (policy : Option Policy) (bom : Bool) (c d e : Converting) (text written input after : List ℕ) (read room : ℕ) → IsNew from to policy bom c → Passes c text d read written → drop read text ≡ input → Pushes d e input true (length input) after room NeedsInput
    → (converted from to policy bom text ≡ record { text = written ++ after; ending = ending_of_part (kept_len e) }) × ((position_of e).faults ≡ counted 0 (faults_in (items_read from to text)))

-- The fault at which a converter stops is the first one of the whole text.
abbrev pub FaultIsOfWhole : Type 0
FaultIsOfWhole =
    (from to : Scheme) (bom : Bool) (c d e : Converting) (text written input after : List ℕ) (read m room : ℕ) (last : Bool) (fault : TextFault) → IsNew from to None bom c → Passes c text d read written → IsPiece input last (drop read text) → m ≤ length input → Pushes d e input last m after room (Fault fault)
    → IsFaultReported (converted from to None bom) true text (written ++ after) fault

-- UTF-16 becomes the WTF-8 of its units, whatever they are.
abbrev pub UnitsBecomeWtf8 : Type 0
UnitsBecomeWtf8 =
    (from : Scheme) (order : BoM) (bytes : List ℕ) → layout_from from bytes ≡ Utf16 order
    → converted from Wtf8Scheme None false bytes ≡ record { text = wtf8 (units_in order (drop (bom_len from bytes) bytes)); ending = ending_of_part (length bytes % 2) }

-- The WTF-8 of units becomes these units in UTF-16, whatever they are.
abbrev pub Wtf8BecomesUnits : Type 0
Wtf8BecomesUnits =
    (to : Scheme) (order : BoM) (units : List ℕ) → All (IsCodeUnit Utf16Form) units → layout_to to ≡ Utf16 order → converted Wtf8Scheme to None false (wtf8 units) ≡ record { text = bytes_in order units; ending = Clean }
