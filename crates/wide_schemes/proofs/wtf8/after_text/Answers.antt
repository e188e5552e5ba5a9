use Rattle.std.proofs.Common.{◌≡◌, ℕ, ◌-◌, List, ◌++◌, length, take, drop, sym, subst}
use Rattle.wide_schemes.specs.Layouts.{BeginsWithFault}
use Rattle.wide_schemes.specs.PointRuns.{BeginsWithHalf, IsHalfAt, StartsWithNoHalf}
use Rattle.wide_schemes.specs.declared.layout.Layout.TheVariants.{Wtf8}
use Rattle.wide_schemes.specs.declared.wtf8.HalfAt.{HalfAt}
use Rattle.wide_schemes.specs.declared.wtf8.HalfAt.TheVariants.{Whole, Part, Nothing}
use Rattle.wide_schemes.proofs.PointRuns.{few-no_half, half-fault, text-stops-points}
use Rattle.wide_schemes.proofs.Puts.{rest-slice}
use Rattle.wide_schemes.proofs.wtf8.after_text.Goals as goal

-- What was found at the end of the text.
at-rest : (bs : List ℕ) (n : ℕ) (half found : HalfAt) → IsHalfAt (take (length bs - n) (drop n bs)) half → half ≡ found → IsHalfAt (drop n bs) found
at-rest bs n half found at is = subst (IsHalfAt (drop n bs)) is (subst (λ xs. IsHalfAt xs half) (rest-slice bs n) at)

pub returns-else-is_item : goal.returns-else-is_item
returns-else-is_item c room =
    let rest = drop c.args.chunk.valid c.args.bytes.now in
    let half : BeginsWithHalf rest c.in-Whole.half = at-rest c.args.bytes.now c.args.chunk.valid c.half_at.result (Whole c.in-Whole.half) c.half_at.ensures c.in-Whole.is in
    subst (λ u. BeginsWithFault Wtf8 c.args.keeps c.args.after_high rest c.args.is_last u 3) (sym c.from.ensures) (half-fault c.args.keeps c.args.after_high rest c.args.is_last c.in-Whole.half half (c.is_item.ensures.fault c.if-is_item.false))

pub returns-then-is_last : goal.returns-then-is_last
returns-then-is_last c room =
    let rest = drop c.args.chunk.valid c.args.bytes.now in
    let part = at-rest c.args.bytes.now c.args.chunk.valid c.half_at.result Part c.half_at.ensures c.in-Part.is in
    text-stops-points c.args.keeps c.args.after_high rest c.args.is_last room c.stop_after.result c.stop_after.ensures (few-no_half rest c.args.is_last part.0 c.if-is_last.true)

pub returns-in-Nothing : goal.returns-in-Nothing
returns-in-Nothing c room =
    let rest = drop c.args.chunk.valid c.args.bytes.now in
    let none : (more : List ℕ) → StartsWithNoHalf (rest ++ more) = at-rest c.args.bytes.now c.args.chunk.valid c.half_at.result Nothing c.half_at.ensures c.in-Nothing.is in
    text-stops-points c.args.keeps c.args.after_high rest c.args.is_last room c.stop_after-in-Nothing.result c.stop_after-in-Nothing.ensures (λ more may. none more)
