-- What is written of a line.
use Rattle.std.proofs.Common.{◌≡◌, ℕ, Bool, List, [], ◌∷◌, ◌++◌, Option, Some, None, Result, Ok, Err, IfSome, OnOk, IsOk, refl, sym, ◌∙◌, ap, codes}
use Rattle.std.proofs.lemmas.List.{append-nil, append_assoc}
use Rattle.std.specs.Fmt.{WritesText, with_newline}
use Rattle.std.specs.Fmt.InlineText.{AppendsIfIntact, IsIntact, inline_text}
use Rattle.std.specs.List.{FoldsTo, concat}
use Rattle.std.specs.declared.fmt.InlineText.{InlineText}
use Rattle.wide_bytes.specs.Put.{PutOf}
use Rattle.wide_error.specs.declared.error.TranscodeError.{TranscodeError}
use Rattle.wide_error.specs.declared.error.TranscodeError.TheVariants.{Utf16, OutOfMemory, OddLength, Read, Write}
use Rattle.widetext_base.specs.Command.{AppendsPrefix, Says}

-- What was written of some bytes is a prefix of them.
pub put_prefix : (held held' : Option (List ℕ)) (failed : Bool) (r : Result (Unit {0}) TranscodeError) (bytes : List ℕ) → PutOf held held' failed r bytes → AppendsPrefix held held' bytes
put_prefix held held' failed (Ok u) bytes put = (put.0, put.1, ([], sym put.2.1 ∙ sym (append-nil put.0)))
put_prefix held held' failed (Err Write) bytes put = (put.0, put.1, put.2.1)
put_prefix held held' failed (Err (Utf16 index item unit)) bytes put = absurd put.2
put_prefix held held' failed (Err OutOfMemory) bytes put = absurd put.2
put_prefix held held' failed (Err OddLength) bytes put = absurd put.2
put_prefix held held' failed (Err Read) bytes put = absurd put.2

-- Nothing is a prefix of any bytes.
pub nothing_put : (held : Option (List ℕ)) (bytes : List ℕ) → AppendsPrefix held held bytes
nothing_put None bytes = ([], tt, (bytes, refl))
nothing_put (Some xs) bytes = ([], sym (append-nil xs), (bytes, refl))

pub nothing_said : (held : Option (List ℕ)) (text : Option (List ℕ)) → IfSome text (Says held held)
nothing_said held None = tt
nothing_said held (Some text) = nothing_put held (text ++ codes "\n")

-- A text that took some calls of `write_str` has grown by what they wrote.
grows_by : {n : ℕ} (parts : List (List ℕ)) (old new : InlineText n) → IsIntact old → FoldsTo AppendsIfIntact old parts new → inline_text new ≡ inline_text old ++ concat parts
grows_by [] old new intact folds = ap inline_text (sym folds) ∙ sym (append-nil (inline_text old))
grows_by (part ∷ parts) old new intact folds =
    let step = folds.1 intact in
    grows_by parts folds.0 new step.0 folds.2 ∙ ap (λ bytes. bytes ++ concat parts) step.1 ∙ append_assoc (inline_text old) part (concat parts)

-- What was written of a line that was made from a text is a prefix of the text's line.
pub line_said : {n : ℕ} {E : Type 0} (text : Option (List ℕ)) (old new : InlineText n) (made : Result (Unit {0}) E) (held held' : Option (List ℕ)) → IsIntact old → inline_text old ≡ [] → IsOk made
    → OnOk made (WritesText AppendsIfIntact old (with_newline text) new) → AppendsPrefix held held' (inline_text new) → IfSome text (Says held held')
line_said None old new made held held' intact empty ok writes put = tt
line_said (Some text) old new (Err e) held held' intact empty ok writes put = let no : ⊥ = cc ok in absurd no
line_said (Some text) old new (Ok u) held held' intact empty ok writes put =
    let line : inline_text new ≡ text ++ codes "\n" = grows_by writes.parts old new intact writes.calls ∙ ap (λ bytes. bytes ++ concat writes.parts) empty ∙ writes.whole in
    rw line at put
