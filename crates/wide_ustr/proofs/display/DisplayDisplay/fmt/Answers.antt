use Rattle.std.proofs.Common.{◌++◌, ap, ◌∙◌, encode_utf8, refl, true}
use Rattle.wide_forms.specs.Utf8.{utf8}
use Rattle.wide_forms.specs.Laws.Utf8.{utf8_bytes-encode_utf8}
use Rattle.wide_unit.proofs.Printed.{styled-none, styled-more, styled-all, plain-of_styled}
use Rattle.wide_ustr.specs.Iter.{lossy_left}
use Rattle.wide_ustr.proofs.display.DisplayDisplay.fmt.Goals as goal

pub loop-c-init : goal.loop-c-init
loop-c-init g c = λ flush. styled-none _ _ flush (ap utf8 (ap (lossy_left g.C.Unit.form g.C.Unit.number) c.into_iter-c-iterator.ensures.into_iter_gives ∙ c.chars_lossy-c-items.ensures))

pub loop-c-preserved : goal.loop-c-preserved
loop-c-preserved g c = λ flush.
    let left = lossy_left g.C.Unit.form g.C.Unit.number in
    let so_far = c.loop-c.invariant flush in
    styled-more (encode_utf8 c.in-Some.c) (utf8 (left c.next.new.self)) so_far (c.in_ok-write_char.ensures so_far.wrote.flush (refl {a = true}))
    (ap utf8 c.in-Some.ensures.steps ∙ ap (λ bs. bs ++ utf8 (left c.next.new.self)) (utf8_bytes-encode_utf8 c.in-Some.c))

pub returns-clause-writes : goal.returns-clause-writes
returns-clause-writes g c = λ plain _. plain-of_styled plain (styled-all (c.loop-c.invariant plain.flush) (ap utf8 c.in-None.ensures.steps.0))

pub returns-clause-styled : goal.returns-clause-styled
returns-clause-styled g c = λ flush _. styled-all (c.loop-c.invariant flush) (ap utf8 c.in-None.ensures.steps.0)
