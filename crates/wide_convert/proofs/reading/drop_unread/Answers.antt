use Rattle.std.proofs.Common.{◌≡◌, ◌-◌, ◌+◌, ◌≤◌, List, ℕ, length, take, drop, sym, ap, ◌∙◌, arith, length-drop}
use Rattle.std.proofs.Math.Seq.{paste}
use Rattle.std.proofs.lemmas.List.{drop-take}
use Rattle.std.proofs.lemmas.List.Edits.{take-paste}
use Rattle.wide_convert.proofs.reading.drop_unread.Goals as goal

prefix : (xs : List ℕ) (i j : ℕ) → i ≤ j → j ≤ length xs → take (j - i) (paste xs 0 (drop i xs) (j - i)) ≡ drop i (take j xs)
prefix xs i j low high =
    let none : j - i ≡ 0 + (j - i) = omega arith in
    let all : i + (j - i) ≡ j = omega arith in
    ap (λ n. take n (paste xs 0 (drop i xs) (j - i))) none ∙ take-paste xs 0 (drop i xs) (j - i) (omega arith) (omega (arith, length-drop i xs))
    ∙ sym (drop-take i (j - i) xs) ∙ ap (λ n. drop i (take n xs)) all

pub returns-clause-unread : goal.returns-clause-unread
returns-clause-unread c =
    let r = c.args.reading.now in
    ap (λ xs. take (r.unread_len - c.args.len) xs) c.copy_within.ensures.after ∙ prefix r.unread c.args.len r.unread_len c.requires.within (omega (arith, c.requires.few))
