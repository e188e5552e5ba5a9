use Rattle.wide_convert.specs.Readings.{PassesWindow}
use Rattle.std.proofs.lemmas.List.{take_all, drop-append-le}
use Rattle.std.proofs.Common.{◌-◌, ◌≤◌, length, length-take-le, take, sym, subst, arith, length-drop, length-append, length-take, ◌++◌, ap, ◌∙◌, drop, ◌+◌, ◌≡◌}
use Rattle.wide_convert.specs.Steps.{Steps, unread_of}
use Rattle.wide_convert.proofs.Stepping.{keeps-none, keeps-some, kept-steps, kept-then, same-kept}
use Rattle.wide_convert.proofs.steps.decode_unread.Goals as goal

pub returns-then-step-kept-clause-steps : goal.returns-then-step-kept-clause-steps
returns-then-step-kept-clause-steps c =
    let r = c.args.reading.now in
    let step = c.decode_window-step in
    let s = step.new.reading in
    let input = c.args.input.now in
    let m = c.fill_window-more.result in
    let d = c.drop_unread.ensures in
    let few : m ≤ length input = omega (arith, c.fill_window-more.ensures.more) in
    subst (Steps r c.drop_unread.new.reading input c.args.is_last 0 (take step.result.written step.new.units) (length step.new.units - step.result.written)) (sym c.end_within.ensures)
    (keeps-some c.args.layout r s c.drop_unread.new.reading input _ c.args.is_last c.is_last_window-is_last.result m step.result.read _ _ step.result.end c.requires.known step.ensures.passes step.ensures.same d.same c.fill_window-more.ensures.bytes few
    (length-take-le r.unread_len r.unread (omega (arith, c.requires.ready.space, c.requires.ready.few))) c.requires.some c.is_last_window-is_last.ensures.last step.ensures.read c.if-step-kept.true (c.is_incomplete.ensures.none c.if-is_incomplete.false) d.unread d.len)

pub returns-clause-steps : goal.returns-clause-steps
returns-clause-steps c =
    let r = c.args.reading.now in
    let step = c.decode_window-step in
    let s = step.new.reading in
    let input = c.args.input.now in
    let m = c.fill_window-more.result in
    let d = c.drop_unread-2.ensures in
    let few : m ≤ length input = omega (arith, c.fill_window-more.ensures.more) in
    subst (Steps r c.drop_unread-2.new.reading input c.args.is_last (step.result.read - r.unread_len) (take step.result.written step.new.units) (length step.new.units - step.result.written)) (sym c.end_within-2.ensures)
    (keeps-none c.args.layout r s c.drop_unread-2.new.reading input _ c.args.is_last c.is_last_window-is_last.result m step.result.read _ _ step.result.end c.requires.known step.ensures.passes step.ensures.same d.same c.fill_window-more.ensures.bytes few
    (length-take-le r.unread_len r.unread (omega (arith, c.requires.ready.space, c.requires.ready.few))) c.requires.some c.is_last_window-is_last.ensures.last step.ensures.read c.if-step-kept.false d.unread d.len)

pub returns-then-is_incomplete-clause-steps : goal.returns-then-is_incomplete-clause-steps
returns-then-is_incomplete-clause-steps c =
    let r = c.args.reading.now in
    let step = c.decode_window-step in
    let s = step.new.reading in
    let input = c.args.input.now in
    let m = c.fill_window-more.result in
    let n = step.result.read in
    let d = c.drop_unread.ensures in
    let a = c.append_unread.ensures in
    let t = c.append_unread.new.reading in
    let window = take (r.unread_len + m) c.fill_window-more.new.bytes in
    let us = take step.result.written step.new.units in
    let room = length step.new.units - step.result.written in
    let passes = subst (PassesWindow c.args.layout r s window c.is_last_window-is_last.result n us room) (c.is_incomplete.ensures.some c.if-is_incomplete.true) step.ensures.passes in
    let kept-len : length (unread_of r) ≡ r.unread_len = length-take-le r.unread_len r.unread (omega (arith, c.requires.ready.space, c.requires.ready.few)) in
    let is : window ≡ unread_of r ++ take m input = c.fill_window-more.ensures.bytes in
    let long : length window ≡ r.unread_len + m = omega (arith, ap length is, length-append (unread_of r) (take m input), kept-len, length-take m input, c.fill_window-more.ensures.more) in
    let all : m ≡ length input = omega (arith, passes.ends.few, length-drop n window, long, c.if-step-kept.true, c.fill_window-more.ensures.more) in
    let whole : take m input ≡ input = take_all m input (omega (arith, all)) in
    let t-unread : unread_of t ≡ drop n window =
    a.unread ∙ ap (λ xs. xs ++ input) (d.unread ∙ ap (drop n) (same-kept r s step.ensures.same)) ∙ ap (λ xs. drop n (unread_of r) ++ xs) (sym whole) ∙ sym (drop-append-le n (unread_of r) (take m input) (omega (arith, c.if-step-kept.true, kept-len))) ∙ ap (drop n) (sym is) in
    kept-steps c.args.layout r s t input window c.args.is_last c.is_last_window-is_last.result m n us room c.requires.known passes step.ensures.same (kept-then s c.drop_unread.new.reading t d.same a.same) is all
    c.is_last_window-is_last.ensures.last c.is_last_window-is_last.ensures.other t-unread (omega (arith, a.len, d.len, step.ensures.same.unread_len, c.if-step-kept.true))
    (omega (arith, ap length t-unread, length-drop n window, long, a.len, d.len, step.ensures.same.unread_len, c.if-step-kept.true, all))
