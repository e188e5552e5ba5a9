use Rattle.std.proofs.Common.{◌+◌, ◌*◌, ◌%◌, ◌∙◌, ap, get_or, sym, subst}
use Rattle.wide_forms.specs.Segmentation.{Char}
use Rattle.wide_conversions.specs.Utf8Items.{BeginsWith}
use Rattle.wide_conversions.proofs.FirstItems.{begins-ascii, begins-part_of_one, begins-two, begins-part_of_two, begins-three, begins-part_of_three, begins-four, may_follow}
use Rattle.wide_conversions.proofs.from_utf8_lossy.first_item.Goals as goal

pub returns-then-first-lt128-clause-character : goal.returns-then-first-lt128-clause-character
returns-then-first-lt128-clause-character c = subst (λ v. BeginsWith c.args.text.now (Char v) 1) (sym c.char_of.ensures) (begins-ascii c.args.text.now c.requires c.if-first-lt128.true)

pub returns-then-not-may_follow-clause-part : goal.returns-then-not-may_follow-clause-part
returns-then-not-may_follow-clause-part c =
    let bs = c.args.text.now in
    begins-part_of_one bs c.requires c.if-first-lt128.false (ap (may_follow (get_or bs 0 0)) (sym c.byte_at-second.ensures) ∙ sym c.may_follow.ensures ∙ c.if-not-may_follow.true)

pub returns-then-first-lt224-clause-character : goal.returns-then-first-lt224-clause-character
returns-then-first-lt224-clause-character c =
    let bs = c.args.text.now in
    let x = get_or bs 0 0 in
    let may = ap (may_follow x) (sym c.byte_at-second.ensures) ∙ sym c.may_follow.ensures ∙ c.if-not-may_follow.false in
    let code = c.char_of-then-first-lt224.ensures ∙ ap (λ y. x % 0x20 * 0x40 + y % 0x40) c.byte_at-second.ensures in
    subst (λ v. BeginsWith bs (Char v) 2) (sym code) (begins-two bs c.requires may c.if-first-lt224.true)

pub returns-then-third-ne2-clause-part : goal.returns-then-third-ne2-clause-part
returns-then-third-ne2-clause-part c =
    let bs = c.args.text.now in
    let may = ap (may_follow (get_or bs 0 0)) (sym c.byte_at-second.ensures) ∙ sym c.may_follow.ensures ∙ c.if-not-may_follow.false in
    begins-part_of_two bs c.requires may c.if-first-lt224.false (rw (← c.byte_at-third.ensures) c.if-third-ne2.true)

pub returns-then-first-lt240-clause-character : goal.returns-then-first-lt240-clause-character
returns-then-first-lt240-clause-character c =
    let bs = c.args.text.now in
    let x = get_or bs 0 0 in
    let may = ap (may_follow x) (sym c.byte_at-second.ensures) ∙ sym c.may_follow.ensures ∙ c.if-not-may_follow.false in
    let code = c.char_of-then-first-lt240.ensures ∙ ap (λ y. x % 0x10 * 0x1000 + y % 0x40 * 0x40 + c.byte_at-third.result % 0x40) c.byte_at-second.ensures ∙ ap (λ z. x % 0x10 * 0x1000 + get_or bs 1 0 % 0x40 * 0x40 + z % 0x40) c.byte_at-third.ensures in
    subst (λ v. BeginsWith bs (Char v) 3) (sym code) (begins-three bs c.requires may (rw (← c.byte_at-third.ensures) c.if-third-ne2.false) c.if-first-lt224.false c.if-first-lt240.true)

pub returns-then-fourth-ne2-clause-part : goal.returns-then-fourth-ne2-clause-part
returns-then-fourth-ne2-clause-part c =
    let bs = c.args.text.now in
    let may = ap (may_follow (get_or bs 0 0)) (sym c.byte_at-second.ensures) ∙ sym c.may_follow.ensures ∙ c.if-not-may_follow.false in
    begins-part_of_three bs c.requires may (rw (← c.byte_at-third.ensures) c.if-third-ne2.false) c.if-first-lt240.false (rw (← c.byte_at-fourth.ensures) c.if-fourth-ne2.true)

pub returns-clause-character : goal.returns-clause-character
returns-clause-character c =
    let bs = c.args.text.now in
    let x = get_or bs 0 0 in
    let may = ap (may_follow x) (sym c.byte_at-second.ensures) ∙ sym c.may_follow.ensures ∙ c.if-not-may_follow.false in
    let code = c.char_of-2.ensures ∙ ap (λ y. x % 8 * 0x4_0000 + y % 0x40 * 0x1000 + c.byte_at-third.result % 0x40 * 0x40 + c.byte_at-fourth.result % 0x40) c.byte_at-second.ensures
    ∙ ap (λ z. x % 8 * 0x4_0000 + get_or bs 1 0 % 0x40 * 0x1000 + z % 0x40 * 0x40 + c.byte_at-fourth.result % 0x40) c.byte_at-third.ensures
    ∙ ap (λ w. x % 8 * 0x4_0000 + get_or bs 1 0 % 0x40 * 0x1000 + get_or bs 2 0 % 0x40 * 0x40 + w % 0x40) c.byte_at-fourth.ensures
    in
    subst (λ v. BeginsWith bs (Char v) 4) (sym code) (begins-four bs c.requires may (rw (← c.byte_at-third.ensures) c.if-third-ne2.false) c.if-first-lt240.false (rw (← c.byte_at-fourth.ensures) c.if-fourth-ne2.false))
