use Rattle.std.proofs.Common.{ℕ, List, ◌++◌, length-drop, drop, sym, subst, arith}
use Rattle.std.proofs.lemmas.List.{append-nil}
use Rattle.wide_conversions.specs.ChunkEnds.{EndsAs, HasFaultAt}
use Rattle.wide_conversions.specs.declared.utf8_validation.Utf8End.TheVariants.{IllFormed, Incomplete}
use Rattle.wide_schemes.specs.Decoded.{EndsText}
use Rattle.wide_schemes.specs.Layouts.{MayFollow}
use Rattle.wide_schemes.proofs.Utf8Chunks.{fault-ill_formed}
use Rattle.wide_schemes.proofs.utf8.stop_after.Goals as goal

pub returns-in-IllFormed : goal.returns-in-IllFormed
returns-in-IllFormed c =
    let bs = c.args.bytes.now in
    let given : EndsAs bs c.args.chunk.valid (IllFormed c.in-IllFormed.len) = subst (EndsAs bs c.args.chunk.valid) c.in-IllFormed.is c.requires in
    subst (EndsText (drop c.args.chunk.valid bs) c.args.is_last) (sym c.fault_at.ensures) (fault-ill_formed bs c.args.chunk.valid c.in-IllFormed.len c.args.is_last (λ more may. given.1 more) given.0.within)

pub returns-then-is_last : goal.returns-then-is_last
returns-then-is_last c =
    let bs = c.args.bytes.now in
    let given : EndsAs bs c.args.chunk.valid (Incomplete c.in-Incomplete.len) = subst (EndsAs bs c.args.chunk.valid) c.in-Incomplete.is c.requires in
    let last : (more : List ℕ) → MayFollow c.args.is_last more → HasFaultAt (bs ++ more) c.args.chunk.valid c.in-Incomplete.len = λ more may. subst (λ xs. HasFaultAt (bs ++ xs) c.args.chunk.valid c.in-Incomplete.len) (sym (may c.if-is_last.true)) (subst (λ xs. HasFaultAt xs c.args.chunk.valid c.in-Incomplete.len) (sym (append-nil bs)) given.0) in
    subst (EndsText (drop c.args.chunk.valid bs) c.args.is_last) (sym c.fault_at-then-is_last.ensures) (fault-ill_formed bs c.args.chunk.valid c.in-Incomplete.len c.args.is_last last given.0.within)

pub returns-else-is_last : goal.returns-else-is_last
returns-else-is_last c =
    let bs = c.args.bytes.now in
    let given : EndsAs bs c.args.chunk.valid (Incomplete c.in-Incomplete.len) = subst (EndsAs bs c.args.chunk.valid) c.in-Incomplete.is c.requires in
    (omega (arith, length-drop c.args.chunk.valid bs, given.0.some, given.1.0), c.if-is_last.false, given.1.1)
