use Rattle.std.proofs.Common.{◌≡◌, [], ◌∷◌, ◌++◌, ◌∙◌, ap, refl, sym, arith, length, length-append}
use Rattle.wide_utfstr.specs.Iter.{chars_left}
use Rattle.wide_utfstring.specs.Drain.{drain_rest}
use Rattle.wide_utfstring.proofs.Drains.{drain_last}
use Rattle.wide_utfstring.proofs.iter.DrainUtfDoubleEndedIterator.next_back.Goals as goal

pub overflow_sub-self : goal.overflow_sub-self
overflow_sub-self g c =
    let d = c.args.self.now in
    let others = chars_left g.C.Unit.form g.C.Unit.number c.next_back.new.self in
    let last : drain_rest d ≡ others ++ c.in_ok-c.c ∷ [] = sym c.as_utfstr.ensures.characters ∙ sym c.chars.ensures.characters ∙ c.in_ok-c.ensures.steps in
    let taken = drain_last d c.in_ok-c.c others c.char_len.result c.char_len.ensures.value last in
    omega (arith, taken.fits)

pub invariant_of-self : goal.invariant_of-self
invariant_of-self g c =
    let d = c.args.self.now in
    let others = chars_left g.C.Unit.form g.C.Unit.number c.next_back.new.self in
    let last : drain_rest d ≡ others ++ c.in_ok-c.c ∷ [] = sym c.as_utfstr.ensures.characters ∙ sym c.chars.ensures.characters ∙ c.in_ok-c.ensures.steps in
    let taken = drain_last d c.in_ok-c.c others c.char_len.result c.char_len.ensures.value last in
    record {
      ordered = (d.ordered.0, omega (arith, taken.fits), omega (arith, d.ordered), d.ordered.3);
      part = taken.part;
      others = d.others;
    }

pub returns-clause-steps : goal.returns-clause-steps
returns-clause-steps g c =
    let d = c.args.self.now in
    let others = chars_left g.C.Unit.form g.C.Unit.number c.next_back.new.self in
    let last : drain_rest d ≡ others ++ c.in_ok-c.c ∷ [] = sym c.as_utfstr.ensures.characters ∙ sym c.chars.ensures.characters ∙ c.in_ok-c.ensures.steps in
    let taken = drain_last d c.in_ok-c.c others c.char_len.result c.char_len.ensures.value last in
    (last ∙ ap (λ cs. cs ++ c.in_ok-c.c ∷ []) (sym taken.rest), record { lender = refl; leaves = refl; capacity = refl })

pub returns-clause-goes : goal.returns-clause-goes
returns-clause-goes g c =
    let d = c.args.self.now in
    let others = chars_left g.C.Unit.form g.C.Unit.number c.next_back.new.self in
    let last : drain_rest d ≡ others ++ c.in_ok-c.c ∷ [] = sym c.as_utfstr.ensures.characters ∙ sym c.chars.ensures.characters ∙ c.in_ok-c.ensures.steps in
    let taken = drain_last d c.in_ok-c.c others c.char_len.result c.char_len.ensures.value last in
    record { on = λ _. (tt, tt, omega (arith, ap length last, ap length taken.rest, length-append others (c.in_ok-c.c ∷ []))); keeps = tt; rests = λ _. tt }
