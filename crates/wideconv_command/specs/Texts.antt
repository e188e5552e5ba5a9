-- How converting a text ends.
use Rattle.std.specs.Prelude.{◌≡◌, ℕ, ◌+◌, ◌^◌, ◌-◌, min, take, Bool, true, false, List, Option, Some, None, Result, Ok, Err, is_ok}
use Rattle.std.specs.Io.KnownBytes.{Consumes}
use Rattle.wide_files.specs.Boms.{scheme_by_bom}
use Rattle.wide_schemes.specs.declared.scheme.Scheme.{Scheme}
use Rattle.wide_transcode.specs.Run.{Moves}
use Rattle.wide_convert.specs.Converted.{EndsConverted}
use Rattle.wide_convert.specs.declared.error.ConvertError.{ConvertError}
use Rattle.wide_convert.specs.declared.error.ConvertError.TheVariants.{Fault, PartOfUnit, TooLong, Read, Write}
use Rattle.wide_convert.specs.declared.converter.TextFault.{TextFault}
use Rattle.wideconv_command.specs.Inputs.{has_taken_end, left_by}
use Rattle.wideconv_command.specs.declared.input.Input.{Input}
use Rattle.wideconv_command.specs.declared.text.TextError.{TextError}
use Rattle.wideconv_command.specs.declared.text.TextError.TheVariants.{NoBom, Stopped}
use Rattle.wideconv_command.specs.declared.text.Conversion.{Conversion}
use Rattle.wideconv_command.specs.declared.request.Request.{Request}

-- A fault behind so many bytes that were passed before the text.
abbrev pub fault_behind : ℕ → TextFault → TextFault
fault_behind passed fault = record { offset = min (fault.offset + passed) (2 ^ 64 - 1); item = fault.item; unit = fault.unit }

-- An error of a text before which so many bytes were passed.
abbrev pub error_behind : ℕ → ConvertError → ConvertError
error_behind passed (Fault fault) = Fault (fault_behind passed fault)
error_behind passed PartOfUnit = PartOfUnit
error_behind passed TooLong = TooLong
error_behind passed Read = Read
error_behind passed Write = Write

-- How the conversion of a text ended that a scheme has, and before which so many bytes were passed: as a run of
-- `convert` did.
abbrev pub EndsText : Scheme → Conversion → ℕ → Result ℕ TextError → Bool → List ℕ → List ℕ → Type 0
EndsText from by passed (Ok faults) ended bytes written = EndsConverted from by.to by.policy by.bom (Ok faults) ended bytes written
EndsText from by passed (Err (NoBom form)) ended bytes written = ⊥
EndsText from by passed (Err (Stopped error)) ended bytes written = (stop : ConvertError) × (error ≡ error_behind passed stop) × EndsConverted from by.to by.policy by.bom (Err stop) ended bytes written

-- A text that a scheme has was converted: the bytes that its devices had left or held before and after, whether the
-- source has ended, and whether all went well.
pub record Converts (from : Scheme) (by : Conversion) (left left' held held' : Option (List ℕ)) (ended is_well : Bool) : Type 0 where
  pub answer : Result ℕ TextError
  pub bytes : List ℕ
  pub written : List ℕ
  pub moves : Moves left left' held held' bytes written
  pub ends : EndsText from by 0 answer ended bytes written
  pub gives : is_well ≡ is_ok answer

-- How a request to write a form converts texts.
abbrev pub conversion_of : Request → Scheme → Conversion
conversion_of request to = record { from = request.from; to = to; policy = request.policy; bom = request.bom }

-- The bytes that are left begin with a BOM. It indicates a scheme, and those of its bytes were taken that the scheme would
-- take for a character.
pub record OpensByBom (left left' : Option (List ℕ)) (found : Scheme × ℕ) : Type 0 where
  pub head : List ℕ
  pub bom : scheme_by_bom head ≡ Some found
  pub begins : (rest : Option (List ℕ)) × Consumes left rest head
  pub taken : Consumes left left' (take found.1 head)

-- A text was converted to its end from the scheme that its BOM indicates, with so many faults that were replaced.
pub record ConvertsByBom (by : Conversion) (left left' held held' : Option (List ℕ)) (ended : Bool) (faults : ℕ) : Type 0 where
  pub found : Scheme × ℕ
  pub opened : Option (List ℕ)
  pub by_bom : OpensByBom left opened found
  pub bytes : List ℕ
  pub written : List ℕ
  pub moves : Moves opened left' held held' bytes written
  pub ends : EndsText found.0 by found.1 (Ok faults) ended bytes written

-- A text was converted as the request asks, from a source into a sink that held these bytes: if both forms are named,
-- and, if all went well, also if the BOM decides. `has_ended` and `left` say what the source below has of its end and of
-- its bytes.
abbrev pub ConvertsBy : {S : Type 0} → (S → Bool) → (S → Option (List ℕ)) → Input S → Input S → Option (List ℕ) → Option (List ℕ) → Request → Bool → Type 0
ConvertsBy has_ended left source source' held held' request is_well =
    ((from to : Scheme) → request.from ≡ Some from → request.to ≡ Some to → Converts from (conversion_of request to) (left_by has_ended left source) (left_by has_ended left source') held held' (has_taken_end source') is_well)
    × ((to : Scheme) → request.from ≡ None → request.to ≡ Some to → is_well ≡ true → (faults : ℕ) × ConvertsByBom (conversion_of request to) (left_by has_ended left source) (left_by has_ended left source') held held' (has_taken_end source') faults)

-- Whether all went well: it ended without an error and says so.
abbrev pub went_well : Result Bool TextError → Bool
went_well (Ok is_well) = is_well
went_well (Err error) = false
