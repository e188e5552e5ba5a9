use Rattle.std.proofs.Common.{◌++◌, ◌∙◌, [], refl, arith, append-nil}
use Rattle.wide_conversions.proofs.ValidPrefixes.{first_follow, more_follow, whole_prefix}
use Rattle.wide_conversions.proofs.utf8_validation.checked_len.Goals as goal

pub chunks-init : goal.chunks-init
chunks-init c =
    let copied = c.copy_from_slice.new.self in
    record { some = omega arith; within = omega arith; valid = first_follow c.args.text.now (copied ++ []) (append-nil copied ∙ c.copy_from_slice.ensures.after) (c.if-not-can_follow.ensures refl) }

pub chunks-preserved : goal.chunks-preserved
chunks-preserved c =
    let before = c.chunks.invariant in
    record { some = omega (arith, before.some); within = omega (arith, c.followed_len-more.ensures.within); valid = more_follow c.args.text.now c.chunks.end _ c.followed_len-more.result (omega (arith, c.followed_len-more.ensures.within)) (omega (arith, before.some)) before.valid c.followed_len-more.ensures.follow }

pub returns-then-more-eq0-clause-text : goal.returns-then-more-eq0-clause-text
returns-then-more-eq0-clause-text c =
    let before = c.chunks.invariant in
    whole_prefix c.args.text.now c.chunks.end c.whole_len.result (omega (arith, before.some)) before.within before.valid c.whole_len.ensures

pub returns-clause-text : goal.returns-clause-text
returns-clause-text c =
    let before = c.chunks.invariant in
    whole_prefix c.args.text.now c.chunks.end c.whole_len-2.result (omega (arith, before.some)) before.within before.valid c.whole_len-2.ensures
