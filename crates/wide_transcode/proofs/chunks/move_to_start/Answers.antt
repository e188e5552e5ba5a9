use Rattle.std.proofs.Common.{◌≡◌, ◌-◌, ◌+◌, ◌≤◌, List, ℕ, length, take, drop, sym, ap, ◌∙◌, arith, length-drop}
use Rattle.std.proofs.Math.Seq.{paste}
use Rattle.std.proofs.lemmas.List.{drop-take}
use Rattle.std.proofs.lemmas.List.Edits.{take-paste}
use Rattle.wide_transcode.proofs.chunks.move_to_start.Goals as goal

prefix : (xs : List ℕ) (i j : ℕ) → i ≤ j → j ≤ length xs → take (j - i) (paste xs 0 (drop i xs) (j - i)) ≡ drop i (take j xs)
prefix xs i j low high =
    let none : j - i ≡ 0 + (j - i) = omega arith in
    let all : i + (j - i) ≡ j = omega arith in
    ap (λ n. take n (paste xs 0 (drop i xs) (j - i))) none ∙ take-paste xs 0 (drop i xs) (j - i) (omega arith) (omega (arith, length-drop i xs))
    ∙ sym (drop-take i (j - i) xs) ∙ ap (λ n. drop i (take n xs)) all

pub returns : goal.returns
returns c = ap (λ xs. take (c.args.to - c.args.from) xs) c.copy_within.ensures.after ∙ prefix c.args.chunk.now c.args.from c.args.to c.requires.ordered c.requires.within
