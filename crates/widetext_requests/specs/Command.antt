-- What the arguments of the program ask for.
use Rattle.std.specs.Prelude.{◌≡◌, ℕ, ◌≤◌, ◌⊎◌, Bool, true, false, Option, List, [], ◌∷◌, ◌++◌, map, length, codes, string_bytes}
use Rattle.std.specs.Io.KnownBytes.{Appends}
use Rattle.std.specs.List.{All}
use Rattle.std.specs.Str.Parse.{IsNumeral, digits_value}
use Rattle.std.specs.declared.string.String.{String}
use Rattle.wide_iter.specs.declared.ends.End.{End}
use Rattle.wide_iter.specs.declared.ends.End.TheVariants.{Front, Back}
use Rattle.wide_error.specs.declared.error.TranscodeError.{TranscodeError}
use Rattle.wide_error.specs.declared.error.TranscodeError.TheVariants.{OutOfMemory, Write}
use Rattle.widetext_base.specs.Command.{AppendsPrefix, AsksForNoUtf8}
use Rattle.std.specs.Str.{chars}
use Rattle.wide_edit.specs.declared.edits.Edit as edit
use Rattle.widetext_requests.specs.Lines.{ends_lines, edit_lines}
use Rattle.widetext_requests.specs.EditArguments.{AreEach, AreEdits, NamesArgument, ArgumentHasTypes}
use Rattle.widetext_requests.specs.declared.edit_arguments.EditArgument.{EditArgument}
use Rattle.widetext_requests.specs.declared.arguments.Request.{Request}
use Rattle.widetext_requests.specs.declared.arguments.Request.TheVariants.{Ends, Edit}

-- One to four hexadecimal digits, in either case, name the unit that is their number.
abbrev pub IsUnit : List ℕ → ℕ → Type 0
IsUnit digits u = IsNumeral 16 digits × (length digits ≤ 4) × (digits_value 16 digits ≡ u)

-- Units, one or more, separated by commas.
abbrev pub AreUnits : List ℕ → List ℕ → Type 0
AreUnits word [] = ⊥
AreUnits word (u ∷ []) = IsUnit word u
AreUnits word (u ∷ v ∷ us) = (digits : List ℕ) × (rest : List ℕ) × (word ≡ digits ++ 44 ∷ rest) × IsUnit digits u × AreUnits rest (v ∷ us)

-- The units that an argument names: `-` names none.
abbrev pub NamesUnits : List ℕ → List ℕ → Type 0
NamesUnits word us = ((word ≡ codes "-") × (us ≡ [])) ⊎ AreUnits word us

-- The letter of an end, `F` or `B`.
abbrev pub end_letter : End → ℕ
end_letter Front = 70
end_letter Back = 66

-- The lines of the edits of a text were written.
pub record IsEdited (text : List ℕ) (words : List EditArgument) (held held' : Option (List ℕ)) : Type 0 where
  pub edits : List edit.Edit
  pub named : AreEdits words edits
  pub put : Appends held held' (edit_lines (chars text) edits)

-- A prefix of the lines of the edits of a text was written.
pub record IsEditedInPart (text : List ℕ) (words : List EditArgument) (held held' : Option (List ℕ)) : Type 0 where
  pub edits : List edit.Edit
  pub named : AreEdits words edits
  pub put : AppendsPrefix held held' (edit_lines (chars text) edits)

-- The error: the output failed, or an allocation failed before any line was written.
abbrev pub failure_of : Bool → TranscodeError
failure_of true = Write
failure_of false = OutOfMemory

-- The lines of a request were written.
abbrev pub IsWritten : Option (List ℕ) → Option (List ℕ) → Request → Type 0
IsWritten held held' (Ends units ends) = Appends held held' (ends_lines units.items ends.items)
IsWritten held held' (Edit text words) = IsEdited text.now words.items held held'

-- A prefix of the lines of a request was written.
abbrev pub IsWrittenInPart : Option (List ℕ) → Option (List ℕ) → Request → Type 0
IsWrittenInPart held held' (Ends units ends) = AppendsPrefix held held' (ends_lines units.items ends.items)
IsWrittenInPart held held' (Edit text words) = IsEditedInPart text.now words.items held held'

-- The values of a request are of their types.
abbrev pub IsOfTypes : Request → Type 0
IsOfTypes (Ends units ends) = Unit {0}
IsOfTypes (Edit text words) = All ArgumentHasTypes words.items

-- The request is one of `ends`, with the units that one argument names and the ends that the other names.
abbrev pub IsEndsOf : List ℕ → List ℕ → Request → Type 0
IsEndsOf units calls (Ends us ends) = NamesUnits units us.items × (calls ≡ map end_letter ends.items)
IsEndsOf units calls (Edit text edits) = ⊥

module _ {A : Type 0} where
  -- The parsed arguments are those of the arguments, one from each.
  abbrev pub AreRead : List (String A) → List EditArgument → Type 0
  AreRead words read = AreEach (λ word. NamesArgument (string_bytes word)) words read

  -- The request is one of `edit`, with this text and the edits that the arguments name.
  abbrev pub IsEditOf : List ℕ → List (String A) → Request → Type 0
  IsEditOf text words (Ends us ends) = ⊥
  IsEditOf text words (Edit t read) = (text ≡ t.now) × AreRead words read.items

  -- The subcommand `ends` and two more arguments.
  abbrev pub AsksForEnds : List (String A) → Type 0
  AsksForEnds [] = ⊥
  AsksForEnds (word ∷ []) = ⊥
  AsksForEnds (word ∷ units ∷ []) = ⊥
  AsksForEnds (word ∷ units ∷ calls ∷ []) = string_bytes word ≡ codes "ends"
  AsksForEnds (word ∷ units ∷ calls ∷ fourth ∷ others) = ⊥

  -- The subcommand `ends`, an argument that names the units, and one that names the end of each call.
  abbrev pub AsksForEndsOf : List ℕ → List End → List (String A) → Type 0
  AsksForEndsOf us ends [] = ⊥
  AsksForEndsOf us ends (word ∷ []) = ⊥
  AsksForEndsOf us ends (word ∷ units ∷ []) = ⊥
  AsksForEndsOf us ends (word ∷ units ∷ calls ∷ []) = (string_bytes word ≡ codes "ends") × NamesUnits (string_bytes units) us × (string_bytes calls ≡ map end_letter ends)
  AsksForEndsOf us ends (word ∷ units ∷ calls ∷ fourth ∷ others) = ⊥

  -- The subcommand `edit`, a text, and any number of edits.
  abbrev pub AsksForEdits : List (String A) → Type 0
  AsksForEdits [] = ⊥
  AsksForEdits (word ∷ []) = ⊥
  AsksForEdits (word ∷ text ∷ edits) = string_bytes word ≡ codes "edit"

  -- The subcommand `edit`, the text, and arguments that name the edits.
  abbrev pub AsksForEditOf : List ℕ → List EditArgument → List (String A) → Type 0
  AsksForEditOf text read [] = ⊥
  AsksForEditOf text read (word ∷ []) = ⊥
  AsksForEditOf text read (word ∷ first ∷ edits) = (string_bytes word ≡ codes "edit") × (string_bytes first ≡ text) × AreRead edits read

  -- The arguments ask for a request.
  abbrev pub IsAskedBy : List (String A) → Request → Type 0
  IsAskedBy words (Ends units ends) = AsksForEndsOf units.items ends.items words
  IsAskedBy words (Edit text read) = AsksForEditOf text.now read.items words

  -- `ends` wrote the lines for the units and the calls that its arguments name.
  pub record WritesEnds (words : List (String A)) (held held' : Option (List ℕ)) : Type 0 where
    pub units : List ℕ
    pub ends : List End
    pub asked : AsksForEndsOf units ends words
    pub put : Appends held held' (ends_lines units ends)

  -- `ends` wrote a prefix of the lines for the units and the calls that its arguments name.
  pub record WritesEndsInPart (words : List (String A)) (held held' : Option (List ℕ)) : Type 0 where
    pub units : List ℕ
    pub ends : List End
    pub asked : AsksForEndsOf units ends words
    pub put : AppendsPrefix held held' (ends_lines units ends)

  -- `edit` wrote the lines of the edits of its text.
  pub record WritesEdits (words : List (String A)) (held held' : Option (List ℕ)) : Type 0 where
    pub text : List ℕ
    pub read : List EditArgument
    pub asked : AsksForEditOf text read words
    pub edited : IsEdited text read held held'

  -- `edit` wrote a prefix of the lines of the edits of its text.
  pub record WritesEditsInPart (words : List (String A)) (held held' : Option (List ℕ)) : Type 0 where
    pub text : List ℕ
    pub read : List EditArgument
    pub asked : AsksForEditOf text read words
    pub edited : IsEditedInPart text read held held'

  -- The arguments have the form of no request.
  pub record IsUnknown (words : List (String A)) : Type 0 where
    pub no_utf8 : AsksForNoUtf8 words
    pub no_ends : ¬ (AsksForEnds words)
    pub no_edits : ¬ (AsksForEdits words)
