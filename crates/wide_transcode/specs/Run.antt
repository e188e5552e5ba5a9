-- What a run from a source to a sink moved, and how it ended.
use Rattle.std.specs.Prelude.{◌≡◌, ℕ, ◌+◌, Bool, true, false, List, [], ◌∷◌, ◌++◌, ◌⊎◌, length, Option, Result, Ok, Err}
use Rattle.std.specs.Io.KnownBytes.{Consumes, Appends, IsAtEnd}
use Rattle.wide_forms.specs.EncodingForm.{Utf16 as Utf16Form, IsHighSurrogate}
use Rattle.wide_forms.specs.Utf8.{utf8}
use Rattle.wide_bytes.specs.Bytes.{whole_units}
use Rattle.wide_bytes.specs.Put.{IsBeginningOf}
use Rattle.wide_transcode.specs.Transcoded.{Transcoded, Ending, Clean, HalfUnit, Unpaired}
use Rattle.wide_error.specs.declared.error.TranscodeError.{TranscodeError}
use Rattle.wide_error.specs.declared.error.TranscodeError.TheVariants.{Utf16, OutOfMemory, OddLength, Read, Write}

-- The list `whole` is the prefix, or the prefix and one U+FFFD REPLACEMENT CHARACTER.
abbrev pub IsAllButReplacement : List ℕ → List ℕ → Type 0
IsAllButReplacement prefix whole = (whole ≡ prefix) ⊎ (whole ≡ prefix ++ utf8 (0xFFFD ∷ []))

-- The `bytes` were taken from the source, and the `written` ones were put into the sink.
pub record Moves (left left' held held' : Option (List ℕ)) (bytes written : List ℕ) : Type 0 where
  pub given : Consumes left left' bytes
  pub put : Appends held held' written

-- No byte is left if the run read to the end: at Ok and at an odd length.
abbrev pub AtEnd : {T : Type 0} → Result T TranscodeError → Option (List ℕ) → Type 0
AtEnd (Ok u) left = IsAtEnd left
AtEnd (Err OddLength) left = IsAtEnd left
AtEnd (Err (Utf16 index item unit)) left = Unit {0}
AtEnd (Err OutOfMemory) left = Unit {0}
AtEnd (Err Read) left = Unit {0}
AtEnd (Err Write) left = Unit {0}

-- How a run of `transcode` ended, by whether the source has ended. `meaning` says what bytes become. The text is
-- complete at Ok, at an odd length, and at a fault, which no further bytes would undo. If a read failed, what was
-- written is a prefix of the text whatever might have followed, and lacks at most the U+FFFD of a high surrogate at the
-- end. Otherwise it is a prefix of the text.
abbrev pub Ends : {T : Type 0} → Result T TranscodeError → Bool → (List ℕ → Transcoded) → List ℕ → List ℕ → Type 0
Ends (Ok u) ended meaning bytes written = (ended ≡ true) × (meaning bytes ≡ record { text = written; ending = Clean })
Ends (Err OddLength) ended meaning bytes written = (ended ≡ true) × (meaning bytes ≡ record { text = written; ending = HalfUnit })
Ends (Err (Utf16 index item unit)) ended meaning bytes written =
    (meaning bytes ≡ record { text = written; ending = Unpaired index item unit }) × ((ended ≡ true) ⊎ ((more : List ℕ) → meaning (bytes ++ more) ≡ meaning bytes))
Ends (Err OutOfMemory) ended meaning bytes written = IsBeginningOf written (meaning bytes).text
Ends (Err Read) ended meaning bytes written = ((more : List ℕ) → IsBeginningOf written (meaning (bytes ++ more)).text) × IsAllButReplacement written (meaning bytes).text
Ends (Err Write) ended meaning bytes written = IsBeginningOf written (meaning bytes).text

-- The ending is no fault, or the fault of a high surrogate that is the last of these units, and that a low one may
-- still follow.
abbrev pub MayBePaired : Ending → List ℕ → Type 0
MayBePaired Clean units = Unit {0}
MayBePaired HalfUnit units = Unit {0}
MayBePaired (Unpaired index item unit) units = (index + 1 ≡ length units) × IsHighSurrogate Utf16Form unit

-- A fault that no further unit can pair is reported before the next read. So if a read failed or found the end, no such
-- fault preceded it. `ending` and `units` are those of the bytes that were read.
abbrev pub ReportsFault : {T : Type 0} → Result T TranscodeError → Bool → Ending → List ℕ → Type 0
ReportsFault (Ok u) ended ending units = Unit {0}
ReportsFault (Err Read) ended ending units = MayBePaired ending units
ReportsFault (Err (Utf16 index item unit)) ended ending units = ended ≡ true → MayBePaired ending units
ReportsFault (Err OddLength) ended ending units = Unit {0}
ReportsFault (Err OutOfMemory) ended ending units = Unit {0}
ReportsFault (Err Write) ended ending units = Unit {0}

-- A run of `transcode` reports a fault before another read, where `meaning` says what bytes become.
abbrev pub ReportsAtOnce : {T : Type 0} → Result T TranscodeError → Bool → (List ℕ → Transcoded) → List ℕ → Type 0
ReportsAtOnce r ended meaning bytes = ReportsFault r ended (meaning bytes).ending (whole_units bytes)

-- The run failed at a read.
abbrev pub fails_to_read : {T : Type 0} → Result T TranscodeError → Bool
fails_to_read (Ok u) = false
fails_to_read (Err Read) = true
fails_to_read (Err Write) = false
fails_to_read (Err (Utf16 index item unit)) = false
fails_to_read (Err OutOfMemory) = false
fails_to_read (Err OddLength) = false

-- The run failed at a write.
abbrev pub fails_to_write : {T : Type 0} → Result T TranscodeError → Bool
fails_to_write (Ok u) = false
fails_to_write (Err Read) = false
fails_to_write (Err Write) = true
fails_to_write (Err (Utf16 index item unit)) = false
fails_to_write (Err OutOfMemory) = false
fails_to_write (Err OddLength) = false
