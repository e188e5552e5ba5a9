use Rattle.std.proofs.Common.{◌≡◌, ◌<◌, ◌↔◌, ℕ, List, length, arith}
use Rattle.std.specs.Str.{IsUtf8, IsValidUpTo}
use Rattle.std.proofs.str.Faults.{not_text}
use Rattle.wide_conversions.specs.ChunkEnds.{EndsAs}
use Rattle.wide_conversions.specs.declared.utf8_validation.Utf8End.{Utf8End}
use Rattle.wide_conversions.specs.declared.utf8_validation.Utf8End.TheVariants.{Complete, IllFormed, Incomplete}
use Rattle.widestring_c.proofs.from_utf8.wide_utf8_first_fault.Goals as goal

whole-if : (bs : List ℕ) (n : ℕ) (end : Utf8End) → EndsAs bs n end → (n ≡ length bs) ↔ IsUtf8 bs
whole-if bs n Complete ends = (λ all. ends.1.0, λ text. ends.0)
whole-if bs n (IllFormed len) ends = (λ all. absurd (omega (arith, all, ends.0.valid.short)), λ text. absurd (not_text bs n ends.0.valid text))
whole-if bs n (Incomplete len) ends = (λ all. absurd (omega (arith, all, ends.0.valid.short)), λ text. absurd (not_text bs n ends.0.valid text))

valid-to : (bs : List ℕ) (n : ℕ) (end : Utf8End) → EndsAs bs n end → n < length bs → IsValidUpTo bs n
valid-to bs n Complete ends short = absurd (omega (arith, short, ends.0))
valid-to bs n (IllFormed len) ends short = ends.0.valid
valid-to bs n (Incomplete len) ends short = ends.0.valid

pub returns-clause-well_formed : goal.returns-clause-well_formed
returns-clause-well_formed c = whole-if c.args.text.now _ _ c.first_utf8_chunk.ensures.end

pub returns-clause-fault : goal.returns-clause-fault
returns-clause-fault c = valid-to c.args.text.now _ _ c.first_utf8_chunk.ensures.end
