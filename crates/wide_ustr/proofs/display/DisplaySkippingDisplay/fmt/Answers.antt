use Rattle.std.proofs.Common.{◌++◌, ap, ◌∙◌, encode_utf8, refl, true}
use Rattle.std.specs.List.{filter}
use Rattle.wide_forms.specs.Texts.{is_kept}
use Rattle.wide_forms.specs.Utf8.{utf8}
use Rattle.wide_forms.specs.Laws.Utf8.{utf8_bytes-encode_utf8}
use Rattle.wide_unit.proofs.Kept.{kept-yes, kept-no}
use Rattle.wide_unit.proofs.Printed.{styled-none, styled-more, styled-same, styled-all, plain-of_styled}
use Rattle.wide_ustr.specs.Iter.{lossy_left}
use Rattle.wide_ustr.proofs.display.DisplaySkippingDisplay.fmt.Goals as goal

pub loop-shown-init : goal.loop-shown-init
loop-shown-init g c = λ flush.
    styled-none _ _ flush (ap (λ cs. utf8 (filter is_kept cs)) (ap (lossy_left g.C.Unit.form g.C.Unit.number) c.into_iter-shown-iterator.ensures.into_iter_gives ∙ c.chars_lossy-shown-items.ensures))

pub loop-shown-preserved : goal.loop-shown-preserved
loop-shown-preserved g c = λ flush.
    let rest = lossy_left g.C.Unit.form g.C.Unit.number c.next.new.self in
    styled-same (utf8 (filter is_kept rest)) (c.loop-shown.invariant flush)
    (ap (λ cs. utf8 (filter is_kept cs)) c.in-Some.ensures.steps ∙ ap utf8 (kept-no c.in-Some.shown rest c.if-shown-ne-REPLACEMENT_CHARACTER.false))

pub loop-shown-preserved-in-Continue-1 : goal.loop-shown-preserved-in-Continue-1
loop-shown-preserved-in-Continue-1 g c = λ flush.
    let rest = lossy_left g.C.Unit.form g.C.Unit.number c.next.new.self in
    let so_far = c.loop-shown.invariant flush in
    styled-more (encode_utf8 c.in-Some.shown) (utf8 (filter is_kept rest)) so_far (c.in_ok-write_char.ensures so_far.wrote.flush (refl {a = true}))
    (ap (λ cs. utf8 (filter is_kept cs)) c.in-Some.ensures.steps ∙ ap utf8 (kept-yes c.in-Some.shown rest c.if-shown-ne-REPLACEMENT_CHARACTER.true) ∙ ap (λ bs. bs ++ utf8 (filter is_kept rest)) (utf8_bytes-encode_utf8 c.in-Some.shown))

pub returns-clause-writes : goal.returns-clause-writes
returns-clause-writes g c = λ plain _. plain-of_styled plain (styled-all (c.loop-shown.invariant plain.flush) (ap (λ cs. utf8 (filter is_kept cs)) c.in-None.ensures.steps.0))

pub returns-clause-styled : goal.returns-clause-styled
returns-clause-styled g c = λ flush _. styled-all (c.loop-shown.invariant flush) (ap (λ cs. utf8 (filter is_kept cs)) c.in-None.ensures.steps.0)
