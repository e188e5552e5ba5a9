use Rattle.std.proofs.Common.{◌≡◌, ◌++◌, ap, sym, ◌∙◌, length, take, drop, List, ℕ}
use Rattle.std.specs.Cmp.Lexicographic.{same_text}
use Rattle.std.proofs.Math.Seq.{take-append_seam}
use Rattle.wide_repair.proofs.LossyChunks.{unchanged}
use Rattle.wide_repair.proofs.lossy.put_chunk.Goals as goal

pub returns-then-eq-clause-text : goal.returns-then-eq-clause-text
returns-then-eq-clause-text c =
    let chunk : List ℕ = c.args.chunk.now in
    let rest : List ℕ = drop (length chunk) c.args.text.now in
    let same : c.args.repaired.now ≡ chunk = same_text c.args.repaired.now chunk c.if-eq.ensures in
    let copied : c.copy_from_slice.new.self ≡ chunk = c.copy_from_slice.ensures.after in
    ap (λ us. take (length chunk) (us ++ rest)) copied ∙ take-append_seam chunk rest ∙ unchanged c.args.policy c.args.after_fault chunk (sym c.requires.repaired ∙ same)
