use Rattle.std.proofs.Common.{◌∙◌, sym}
use Rattle.wide_wtf8.proofs.Appends.{not-apart, not-first, not-last, not-short}
use Rattle.wide_wtf8.proofs.appending.halves_between.Goals as goal

pub returns-then-text-lt3-clause-none : goal.returns-then-text-lt3-clause-none
returns-then-text-lt3-clause-none c = λ us vs a b prefix back h l e f pair. not-short c.args.text.now c.args.more.now us vs a b prefix back h l e f pair c.if-text-lt3.true

pub returns-in_default-clause-none : goal.returns-in_default-clause-none
returns-in_default-clause-none c = λ us vs a b prefix back h l e f pair. not-last c.args.text.now c.args.more.now us vs a b prefix back h l e f pair c.in_default.ensures.none

pub returns-in_default-first_half-clause-none : goal.returns-in_default-first_half-clause-none
returns-in_default-first_half-clause-none c = λ us vs a b prefix back h l e f pair. not-first c.args.text.now c.args.more.now us vs a b prefix back h l e f pair c.in_default-first_half.ensures.none

pub returns-else-is_pair-clause-none : goal.returns-else-is_pair-clause-none
returns-else-is_pair-clause-none c = λ us vs a b prefix back h l e f pair.
    not-apart c.args.text.now c.args.more.now us vs a b prefix back h l e f pair c.in-Some.high c.in-Some-first_half.low c.in-Some.ensures.some c.in-Some-first_half.ensures.some (sym c.is_pair.ensures ∙ c.if-is_pair.false)
