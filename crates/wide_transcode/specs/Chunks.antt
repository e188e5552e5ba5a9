-- What transcoding chunk by chunk does, after the BOM and in a known byte order.
use Rattle.std.specs.Prelude.{◌≡◌, ℕ, ◌%◌, ◌<◌, ◌≤◌, ◌^◌, ◌⊎◌, Bool, true, false, List, [], ◌∷◌, length, take, Option, Some, None, Result, Ok, Err, if◌then◌else◌}
use Rattle.std.specs.Io.KnownBytes.{IsAtEnd}
use Rattle.wide_forms.specs.EncodingForm.{Utf16, IsHighSurrogate}
use Rattle.wide_forms.specs.Items.{items, leading_characters, first_fault}
use Rattle.wide_forms.specs.Lossy.{lossy_by}
use Rattle.wide_forms.specs.Utf8.{utf8}
use Rattle.wide_forms.specs.declared.policy.Policy.{Policy}
use Rattle.wide_bytes.specs.Bytes.{units_in, is_odd, without_last_zero}
use Rattle.wide_bytes.specs.Put.{IsBeginningOf}
use Rattle.wide_transcode.specs.Lossied.{lossy_text}
use Rattle.wide_transcode.specs.Run.{ReportsFault}
use Rattle.wide_transcode.specs.Transcoded.{Transcoded, ending_of}
use Rattle.wide_bytes.specs.declared.order.BoM.{BoM}
use Rattle.wide_error.specs.declared.error.TranscodeError.{TranscodeError}
use Rattle.wide_error.specs.declared.error.TranscodeError.TheVariants.{Utf16 as Utf16Fault, OutOfMemory, OddLength, Read, Write}

-- The code units of the bytes after the BOM.
abbrev pub units_after : BoM → List ℕ → List ℕ
units_after order bytes =
    let units = units_in order bytes in
    if is_odd bytes then units else without_last_zero units

-- What the bytes after the BOM become, under a policy, or strictly if there is none.
abbrev pub transcoded_after : BoM → Option Policy → List ℕ → Transcoded
transcoded_after order None bytes =
    let is = items Utf16 (units_after order bytes) in
    record { text = utf8 (leading_characters is); ending = ending_of (first_fault Utf16 is) (is_odd bytes) }
transcoded_after order (Some policy) bytes =
    let is = items Utf16 (units_after order bytes) in
    record { text = utf8 (lossy_by policy is); ending = ending_of None (is_odd bytes) }

-- A fault after the BOM is reported before another read.
abbrev pub ReportsAfter : {T : Type 0} → Result T TranscodeError → Bool → BoM → Option Policy → List ℕ → Type 0
ReportsAfter r ended order policy bytes = ReportsFault r ended (transcoded_after order policy bytes).ending (units_in order bytes)

-- Out of memory is reported only if the index of a unit would not fit into 64 bits.
abbrev pub WantsSpace : {T : Type 0} → Result T TranscodeError → List ℕ → Type 0
WantsSpace (Ok u) units = Unit {0}
WantsSpace (Err OutOfMemory) units = 2 ^ 64 < length units
WantsSpace (Err (Utf16Fault index item unit)) units = Unit {0}
WantsSpace (Err OddLength) units = Unit {0}
WantsSpace (Err Read) units = Unit {0}
WantsSpace (Err Write) units = Unit {0}

-- The result of the first takes, for these bytes: at Ok all of them are at the beginning of the chunk, two or more, or
-- fewer at the end of the input.
abbrev pub Starts : Result ℕ TranscodeError → List ℕ → List ℕ → Option (List ℕ) → Bool → Bool → Type 0
Starts (Ok n) bytes chunk left failed ended =
    (n ≤ length chunk) × (bytes ≡ take n chunk) × (failed ≡ false) × (((2 ≤ n) × (ended ≡ false)) ⊎ ((n < 2) × (ended ≡ true) × IsAtEnd left))
Starts (Err Read) bytes chunk left failed ended = (length bytes < 2) × (failed ≡ true) × (ended ≡ false)
Starts (Err OutOfMemory) bytes chunk left failed ended = ⊥
Starts (Err (Utf16Fault index item unit)) bytes chunk left failed ended = ⊥
Starts (Err OddLength) bytes chunk left failed ended = ⊥
Starts (Err Write) bytes chunk left failed ended = ⊥

-- The result at the end of the input, where `rest` was not encoded, after `offset` units, which are `number`
-- characters.
abbrev pub Finishes : {T : Type 0} → Result T TranscodeError → BoM → List ℕ → ℕ → ℕ → Type 0
Finishes (Ok u) order rest offset number = (rest ≡ []) ⊎ ((length rest ≡ 2) × (units_in order rest ≡ 0 ∷ []))
Finishes (Err OddLength) order rest offset number = length rest ≡ 1
Finishes (Err (Utf16Fault index item unit)) order rest offset number = (index ≡ offset) × (item ≡ number) × (units_in order rest ≡ unit ∷ []) × IsHighSurrogate Utf16 unit
Finishes (Err OutOfMemory) order rest offset number = (2 ^ 64 ≤ offset) × (u : ℕ) × (units_in order rest ≡ u ∷ []) × IsHighSurrogate Utf16 u
Finishes (Err Read) order rest offset number = ⊥
Finishes (Err Write) order rest offset number = ⊥

-- The result at the end of the input under a policy, where `len` bytes were left, their lossy text is `text`, and
-- `last` was written of it.
abbrev pub FinishesLossy : {T : Type 0} → Result T TranscodeError → List ℕ → List ℕ → ℕ → Type 0
FinishesLossy (Ok u) last text len = (last ≡ text) × (len % 2 ≡ 0)
FinishesLossy (Err OddLength) last text len = (last ≡ text) × (len % 2 ≡ 1)
FinishesLossy (Err Write) last text len = IsBeginningOf last text
FinishesLossy (Err Read) last text len = ⊥
FinishesLossy (Err OutOfMemory) last text len = ⊥
FinishesLossy (Err (Utf16Fault index item unit)) last text len = ⊥

-- The result at the end of the input, under a policy or strictly if there is none, where `last` was written there.
abbrev pub FinishesUnder : {T : Type 0} → Result T TranscodeError → BoM → Option Policy → Bool → List ℕ → ℕ → ℕ → List ℕ → Type 0
FinishesUnder r order None after_fault rest offset number last = (last ≡ []) × Finishes r order rest offset number
FinishesUnder r order (Some policy) after_fault rest offset number last = FinishesLossy r last (lossy_text policy after_fault (units_after order rest)) (length rest)

-- The error for a fault after `offset` units, which are `number` characters, or `OutOfMemory` if the index does not fit
-- into 64 bits.
abbrev pub IsFaultAt : TranscodeError → ℕ → ℕ → ℕ → Type 0
IsFaultAt (Utf16Fault index item unit) offset number u = (index ≡ offset) × (item ≡ number) × (unit ≡ u)
IsFaultAt OutOfMemory offset number u = 2 ^ 64 ≤ offset
IsFaultAt OddLength offset number u = ⊥
IsFaultAt Read offset number u = ⊥
IsFaultAt Write offset number u = ⊥
