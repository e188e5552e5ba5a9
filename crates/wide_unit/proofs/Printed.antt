-- A text that is written to a formatter chunk by chunk.
use Rattle.std.proofs.Common.{◌≡◌, ℕ, List, [], ◌++◌, sym, ◌∙◌, ap, subst, append_assoc}
use Rattle.std.proofs.lemmas.List.{append-nil}
use Rattle.std.proofs.Output.{writes_in_calls_nil, has_written_append, has_written_of_eq, has_written_styled_nil, has_written_styled_append, has_written_styled_of_eq}
use Rattle.std.specs.Fmt.{HasWritten, HasWrittenStyled, IsPlainFormatter, IsFlush, IsDefaultSpec}
use Rattle.std.specs.declared.fmt.Formatter.{Formatter}

-- g is f after a prefix of the text was written, and `left` is the rest of it.
pub record HasPrinted {W : Type 0} (took : W → List ℕ → W → Type 0) (f : Formatter W) (text left : List ℕ) (g : Formatter W) : Type 0 where
  pub done : List ℕ
  pub wrote : HasWritten took f done g
  pub joined : done ++ left ≡ text

module _ {W : Type 0} {took : W → List ℕ → W → Type 0} where
  pub printed-none : {f : Formatter W} (text left : List ℕ) → IsPlainFormatter f → left ≡ text → HasPrinted took f text left f
  printed-none text left plain e = record { done = []; wrote = record { wrote = writes_in_calls_nil _ _; plain = plain }; joined = e }

  pub printed-more : {f g h : Formatter W} {text left : List ℕ} (bs rest : List ℕ) → HasPrinted took f text left g → HasWritten took g bs h → left ≡ bs ++ rest → HasPrinted took f text rest h
  printed-more bs rest so_far more e = record {
    done = so_far.done ++ bs;
    wrote = has_written_append _ _ _ _ _ _ so_far.wrote more;
    joined = append_assoc so_far.done bs rest ∙ ap (λ xs. so_far.done ++ xs) (sym e) ∙ so_far.joined;
  }

  -- A step that writes nothing leaves what has to be printed.
  pub printed-same : {f g : Formatter W} {text left : List ℕ} (rest : List ℕ) → HasPrinted took f text left g → left ≡ rest → HasPrinted took f text rest g
  printed-same rest so_far e = record { done = so_far.done; wrote = so_far.wrote; joined = ap (λ xs. so_far.done ++ xs) (sym e) ∙ so_far.joined }

  pub printed-all : {f g : Formatter W} {text left : List ℕ} → HasPrinted took f text left g → left ≡ [] → HasWritten took f text g
  printed-all so_far e = has_written_of_eq _ _ _ _ _ (sym (append-nil so_far.done) ∙ ap (λ xs. so_far.done ++ xs) (sym e) ∙ so_far.joined) so_far.wrote

-- A text that is written chunk by chunk, whatever options f has.
pub record HasPrintedStyled {W : Type 0} (took : W → List ℕ → W → Type 0) (f : Formatter W) (text left : List ℕ) (g : Formatter W) : Type 0 where
  pub done : List ℕ
  pub wrote : HasWrittenStyled took f done g
  pub joined : done ++ left ≡ text

module _ {W : Type 0} {took : W → List ℕ → W → Type 0} where
  pub styled-none : {f : Formatter W} (text left : List ℕ) → IsFlush f → left ≡ text → HasPrintedStyled took f text left f
  styled-none text left flush e = record { done = []; wrote = has_written_styled_nil _ _ flush; joined = e }

  pub styled-more : {f g h : Formatter W} {text left : List ℕ} (bs rest : List ℕ) → HasPrintedStyled took f text left g → HasWrittenStyled took g bs h → left ≡ bs ++ rest → HasPrintedStyled took f text rest h
  styled-more bs rest so_far more e = record {
    done = so_far.done ++ bs;
    wrote = has_written_styled_append _ _ _ _ _ _ so_far.wrote more;
    joined = append_assoc so_far.done bs rest ∙ ap (λ xs. so_far.done ++ xs) (sym e) ∙ so_far.joined;
  }

  pub styled-same : {f g : Formatter W} {text left : List ℕ} (rest : List ℕ) → HasPrintedStyled took f text left g → left ≡ rest → HasPrintedStyled took f text rest g
  styled-same rest so_far e = record { done = so_far.done; wrote = so_far.wrote; joined = ap (λ xs. so_far.done ++ xs) (sym e) ∙ so_far.joined }

  pub styled-all : {f g : Formatter W} {text left : List ℕ} → HasPrintedStyled took f text left g → left ≡ [] → HasWrittenStyled took f text g
  styled-all so_far e = has_written_styled_of_eq _ _ _ _ _ (sym (append-nil so_far.done) ∙ ap (λ xs. so_far.done ++ xs) (sym e) ∙ so_far.joined) so_far.wrote

  -- What holds for any options of f holds without options.
  pub plain-of_styled : {f g : Formatter W} {bs : List ℕ} → IsPlainFormatter f → HasWrittenStyled took f bs g → HasWritten took f bs g
  plain-of_styled plain so = record { wrote = so.wrote; plain = record { bare = subst IsDefaultSpec (sym so.spec) plain.bare; flush = so.flush } }
