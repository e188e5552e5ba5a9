use Rattle.std.proofs.Common.{sym, subst}
use Rattle.std.specs.Str.Pattern.{StartsWithChar}
use Rattle.wide_from_utf8.proofs.FirstCharacters.{in_one, in_two, in_three, in_four, wide}
use Rattle.wide_from_utf8.proofs.from_utf8.first_char.Goals as goal

pub char_of-requires : goal.char_of-requires
char_of-requires c = (in_one c.args.text.now c.requires.text c.requires.some c.if-first-lt128.true).0

pub returns-then-first-lt128-clause-first : goal.returns-then-first-lt128-clause-first
returns-then-first-lt128-clause-first c =
    let text = c.args.text.now in
    subst (λ v. StartsWithChar text v 1) (sym c.char_of.ensures) (in_one text c.requires.text c.requires.some c.if-first-lt128.true).1

pub bounds-text-1 : goal.bounds-text-1
bounds-text-1 c = (wide c.args.text.now c.requires.text c.requires.some).0 c.if-first-lt128.false

pub char_of-requires-then-first-lt224 : goal.char_of-requires-then-first-lt224
char_of-requires-then-first-lt224 c = (in_two c.args.text.now c.requires.text c.requires.some c.if-first-lt128.false c.if-first-lt224.true).0

pub returns-then-first-lt224-clause-first : goal.returns-then-first-lt224-clause-first
returns-then-first-lt224-clause-first c =
    let text = c.args.text.now in
    subst (λ v. StartsWithChar text v 2) (sym c.char_of-then-first-lt224.ensures) (in_two text c.requires.text c.requires.some c.if-first-lt128.false c.if-first-lt224.true).1

pub bounds-text-2 : goal.bounds-text-2
bounds-text-2 c = (wide c.args.text.now c.requires.text c.requires.some).1 c.if-first-lt224.false

pub char_of-requires-then-first-lt240 : goal.char_of-requires-then-first-lt240
char_of-requires-then-first-lt240 c = (in_three c.args.text.now c.requires.text c.requires.some c.if-first-lt224.false c.if-first-lt240.true).0

pub returns-then-first-lt240-clause-first : goal.returns-then-first-lt240-clause-first
returns-then-first-lt240-clause-first c =
    let text = c.args.text.now in
    subst (λ v. StartsWithChar text v 3) (sym c.char_of-then-first-lt240.ensures) (in_three text c.requires.text c.requires.some c.if-first-lt224.false c.if-first-lt240.true).1

pub bounds-text-3 : goal.bounds-text-3
bounds-text-3 c = (wide c.args.text.now c.requires.text c.requires.some).2 c.if-first-lt240.false

pub char_of-requires-2 : goal.char_of-requires-2
char_of-requires-2 c = (in_four c.args.text.now c.requires.text c.requires.some c.if-first-lt240.false).0

pub returns-clause-first : goal.returns-clause-first
returns-clause-first c =
    let text = c.args.text.now in
    subst (λ v. StartsWithChar text v 4) (sym c.char_of-2.ensures) (in_four text c.requires.text c.requires.some c.if-first-lt240.false).1
