use Rattle.std.proofs.Common.{◌≡◌, ◌∷◌, ◌∙◌, ap, refl, sym, arith, length}
use Rattle.wide_utfstr.specs.Iter.{chars_left}
use Rattle.wide_utfstring.specs.Drain.{drain_rest}
use Rattle.wide_utfstring.proofs.Drains.{drain_first}
use Rattle.wide_utfstring.proofs.iter.DrainUtfIterator.next.Goals as goal

pub overflow_add-self : goal.overflow_add-self
overflow_add-self g c =
    let d = c.args.self.now in
    let others = chars_left g.C.Unit.form g.C.Unit.number c.next.new.self in
    let first : drain_rest d ≡ c.in_ok-c.c ∷ others = sym c.as_utfstr.ensures.characters ∙ sym c.chars.ensures.characters ∙ c.in_ok-c.ensures.steps in
    let taken = drain_first d c.in_ok-c.c others c.char_len.result c.char_len.ensures.value first in
    omega (arith, taken.fits)

pub invariant_of-self : goal.invariant_of-self
invariant_of-self g c =
    let d = c.args.self.now in
    let others = chars_left g.C.Unit.form g.C.Unit.number c.next.new.self in
    let first : drain_rest d ≡ c.in_ok-c.c ∷ others = sym c.as_utfstr.ensures.characters ∙ sym c.chars.ensures.characters ∙ c.in_ok-c.ensures.steps in
    let taken = drain_first d c.in_ok-c.c others c.char_len.result c.char_len.ensures.value first in
    record {
      ordered = (omega (arith, d.ordered), taken.fits, d.ordered.2, d.ordered.3);
      part = taken.part;
      others = d.others;
    }

pub returns-clause-steps : goal.returns-clause-steps
returns-clause-steps g c =
    let d = c.args.self.now in
    let others = chars_left g.C.Unit.form g.C.Unit.number c.next.new.self in
    let first : drain_rest d ≡ c.in_ok-c.c ∷ others = sym c.as_utfstr.ensures.characters ∙ sym c.chars.ensures.characters ∙ c.in_ok-c.ensures.steps in
    let taken = drain_first d c.in_ok-c.c others c.char_len.result c.char_len.ensures.value first in
    (first ∙ ap (λ cs. c.in_ok-c.c ∷ cs) (sym taken.rest), record { lender = refl; leaves = refl; capacity = refl })

pub returns-clause-goes : goal.returns-clause-goes
returns-clause-goes g c =
    let d = c.args.self.now in
    let others = chars_left g.C.Unit.form g.C.Unit.number c.next.new.self in
    let first : drain_rest d ≡ c.in_ok-c.c ∷ others = sym c.as_utfstr.ensures.characters ∙ sym c.chars.ensures.characters ∙ c.in_ok-c.ensures.steps in
    let taken = drain_first d c.in_ok-c.c others c.char_len.result c.char_len.ensures.value first in
    record { on = λ _. (tt, tt, omega (arith, ap length first, ap length taken.rest)); keeps = tt; rests = λ _. tt }
