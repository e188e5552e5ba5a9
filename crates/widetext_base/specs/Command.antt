-- The arguments of the subcommand `utf8`, how a run of it ends, and the exit statuses.
use Rattle.std.specs.Prelude.{◌≡◌, ◌⊎◌, ℕ, Bool, List, [], ◌∷◌, ◌++◌, Option, Some, None, Result, Ok, Err, IfErr, codes, string_bytes}
use Rattle.std.specs.Io.KnownBytes.{Appends}
use Rattle.std.specs.declared.string.String.{String}
use Rattle.wide_bytes.specs.Bytes.{units_of_bytes}
use Rattle.wide_transcode.specs.Chunks.{WantsSpace}
use Rattle.wide_bytes.specs.Put.{IsBeginningOf}
use Rattle.wide_transcode.specs.Run.{AtEnd, Ends, Moves, ReportsAtOnce, fails_to_read, fails_to_write}
use Rattle.wide_transcode.specs.Transcoded.{transcoded_under}
use Rattle.wide_error.specs.Texts.{transcode_error_text}
use Rattle.wide_error.specs.declared.error.TranscodeError.{TranscodeError}
use Rattle.wide_forms.specs.declared.policy.Policy.{Policy}
use Rattle.wide_forms.specs.declared.policy.Policy.TheVariants.{Each, Run, Skip}

-- The argument, by its bytes, that asks for lossy text under a policy.
abbrev pub IsOption : Policy → List ℕ → Type 0
IsOption Each word = (word ≡ codes "--lossy") ⊎ (word ≡ codes "--lossy=each")
IsOption Run word = word ≡ codes "--lossy=run"
IsOption Skip word = word ≡ codes "--lossy=skip"

module _ {A : Type 0} where
  -- The subcommand `utf8`: alone, or followed by the option of a policy.
  abbrev pub AsksForUtf8 : Option Policy → List (String A) → Type 0
  AsksForUtf8 None [] = ⊥
  AsksForUtf8 None (word ∷ []) = string_bytes word ≡ codes "utf8"
  AsksForUtf8 None (word ∷ second ∷ others) = ⊥
  AsksForUtf8 (Some policy) [] = ⊥
  AsksForUtf8 (Some policy) (word ∷ []) = ⊥
  AsksForUtf8 (Some policy) (word ∷ option ∷ []) = (string_bytes word ≡ codes "utf8") × IsOption policy (string_bytes option)
  AsksForUtf8 (Some policy) (word ∷ option ∷ third ∷ others) = ⊥

  -- The arguments do not ask for `utf8`, neither strictly nor by any policy.
  abbrev pub AsksForNoUtf8 : List (String A) → Type 0
  AsksForNoUtf8 words = (policy : Option Policy) → ¬ (AsksForUtf8 policy words)

-- 0 is success, 1 is an error.
abbrev pub status_of : {T E : Type 0} → Result T E → ℕ
status_of (Ok u) = 0
status_of (Err e) = 1

-- A prefix of these bytes was written.
abbrev pub AppendsPrefix : Option (List ℕ) → Option (List ℕ) → List ℕ → Type 0
AppendsPrefix held held' bytes = (written : List ℕ) × Appends held held' written × IsBeginningOf written bytes

-- A line of this text was written, or a prefix of the line.
abbrev pub Says : Option (List ℕ) → Option (List ℕ) → List ℕ → Type 0
Says held held' text = AppendsPrefix held held' (text ++ codes "\n")

-- One run of `transcode` or, under a policy, of `transcode_with`: the bytes that its devices had left or held before
-- and after, whether they have ended or failed, what the fault stream held before and after, and the exit status.
pub record Utf8Run (policy : Option Policy) (left left' held held' : Option (List ℕ)) (ended read_failed write_failed : Bool) (said said' : Option (List ℕ)) (status : ℕ) : Type 0 where
  pub answer : Result (Unit {0}) TranscodeError
  pub bytes : List ℕ
  pub written : List ℕ
  pub moves : Moves left left' held held' bytes written
  pub ends : Ends answer ended (transcoded_under policy) bytes written
  pub space : WantsSpace answer (units_of_bytes bytes)
  pub reports : ReportsAtOnce answer ended (transcoded_under policy) bytes
  pub at_end : AtEnd answer left'
  pub source_failed : read_failed ≡ fails_to_read answer
  pub sink_failed : write_failed ≡ fails_to_write answer
  pub says : IfErr answer (λ error. Says said said' (transcode_error_text error))
  pub gives : status ≡ status_of answer
