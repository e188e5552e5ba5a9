-- Conversions piece by piece, as C programs start and continue them: the numbers of encoding schemes and policies, and
-- the converter that a state in the caller's memory holds.
use Rattle.std.specs.Prelude.{◌≡◌, ◌-◌, ◌≤◌, ◌==◌, ℕ, Bool, List, Option, Some, None, if◌then◌else◌, length, take}
use Rattle.std.specs.Option.{option_map}
use Rattle.wide_forms.specs.declared.policy.Policy.{Policy}
use Rattle.wide_schemes.specs.Schemes.{layout_to}
use Rattle.wide_schemes.specs.declared.layout.Layout.{Layout}
use Rattle.wide_schemes.specs.declared.scheme.Scheme.{Scheme}
use Rattle.wide_schemes.specs.declared.scheme.Scheme.TheVariants.{Utf8, Utf16Le, Utf16Be, Utf16, Utf32Le, Utf32Be, Utf32, Wtf8}
use Rattle.wide_convert.specs.Converting.{Converting, IsConverting, Pushes}
use Rattle.wide_convert.specs.Statements.{IsNew}
use Rattle.wide_convert.specs.declared.converter.TextFault.{TextFault}
use Rattle.wide_convert.specs.declared.converter.ProgressEnd.{ProgressEnd}
use Rattle.wide_convert.specs.declared.converter.ProgressEnd.TheVariants.{NeedsInput, NoSpace, Fault}
use Rattle.widestring_c.specs.Bytes.{both, is_set}
use Rattle.widestring_c.specs.Policies.{policy_of}
use Rattle.widestring_c.specs.declared.state.WideConverter.{WideConverter}

-- The encoding scheme with a number.
abbrev pub scheme_named : ℕ → Option Scheme
scheme_named n =
    if n == 0 then Some Utf8
    else if n == 1 then Some Utf16Le
    else if n == 2 then Some Utf16Be
    else if n == 3 then Some Utf16
    else if n == 4 then Some Utf32Le
    else if n == 5 then Some Utf32Be
    else if n == 6 then Some Utf32
    else if n == 7 then Some Wtf8
    else None

-- The policy with a number, or for 3 none: the conversion stops at each fault.
abbrev pub strictness_named : ℕ → Option (Option Policy)
strictness_named n = if n == 3 then Some None else option_map Some (policy_of n)

-- The layout of the scheme with a number, or for 8 none: it is not known yet.
abbrev pub layout_named : ℕ → Option (Option Layout)
layout_named n = if n == 8 then Some None else option_map (λ scheme. Some (layout_to scheme)) (scheme_named n)

-- The schemes and the policy of a conversion, given by numbers.
abbrev pub conversion_named : ℕ → ℕ → ℕ → Option (Scheme × (Scheme × Option Policy))
conversion_named from to policy = both (scheme_named from) (both (scheme_named to) (strictness_named policy))

-- The state holds the converter.
pub record Holds (state : WideConverter) (c : Converting) : Type 0 where
  pub ready : IsConverting c
  pub from : scheme_named state.from ≡ Some c.reading.scheme
  pub to : option_map layout_to (scheme_named state.to) ≡ Some c.to
  pub policy : strictness_named state.policy ≡ Some c.reading.policy
  pub layout : layout_named state.layout ≡ Some c.reading.layout
  pub keeps : is_set state.keeps ≡ c.reading.keeps
  pub after_high : is_set state.after_high ≡ c.reading.after_high
  pub after_fault : is_set state.after_fault ≡ c.reading.after_fault
  pub mark : is_set state.bom ≡ c.bom
  pub unread : state.unread ≡ c.reading.unread
  pub kept : state.kept ≡ c.reading.unread_len
  pub bom_length : state.bom_length ≡ c.reading.bom
  pub position : record { bytes = state.bytes; items = state.items; faults = state.faults } ≡ c.reading.position

-- The state holds no converter.
abbrev pub HoldsNone : WideConverter → Type 0
HoldsNone state = (c : Converting) → ¬ (Holds state c)

-- The number for why a conversion stopped, and the fault, which is 0 throughout if it stopped at none.
abbrev pub IsEnd : ℕ → TextFault → ProgressEnd → Type 0
IsEnd number fault NeedsInput = (number ≡ 0) × (fault ≡ record { offset = 0; item = 0; unit = 0 })
IsEnd number fault NoSpace = (number ≡ 1) × (fault ≡ record { offset = 0; item = 0; unit = 0 })
IsEnd number fault (Fault at) = (number ≡ 2) × (fault ≡ at)

-- The state says that the conversion stopped for this reason.
abbrev pub Says : WideConverter → ProgressEnd → Type 0
Says state end = IsEnd state.end (record { offset = state.fault_offset; item = state.fault_item; unit = state.fault_unit }) end

-- The state holds a converter of a text of which nothing was read.
pub record IsStarted (from to : Scheme) (policy : Option Policy) (bom : Bool) (state : WideConverter) : Type 0 where
  pub converter : Converting
  pub holds : Holds state converter
  pub new : IsNew from to policy bom converter
  pub none_read : state.read ≡ 0
  pub end : Says state NeedsInput

-- The converter in the state was given input, wrote this, and is now another one, which the new state holds.
pub record IsPushed (old : Converting) (state : WideConverter) (input : List ℕ) (last : Bool) (written : ℕ) (output : List ℕ) : Type 0 where
  pub converter : Converting
  pub holds : Holds state converter
  pub end : ProgressEnd
  pub says : Says state end
  pub read : state.read ≤ length input
  pub fits : written ≤ length output
  pub pushes : Pushes old converter input last state.read (take written output) (length output - written) end
