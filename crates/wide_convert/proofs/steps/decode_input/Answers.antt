use Rattle.wide_schemes.proofs.Puts.{rest-slice}
use Rattle.wide_convert.specs.Steps.{unread_of}
use Rattle.wide_convert.specs.Readings.{PassesWindow}
use Rattle.std.proofs.lemmas.List.{take_all}
use Rattle.std.proofs.Common.{length-drop, ◌++◌, ap, sym, ◌∙◌, drop, take, subst, arith, length, [], ◌-◌, ◌≡◌}
use Rattle.wide_convert.proofs.Stepping.{input-steps, kept-steps, same-kept}
use Rattle.wide_convert.proofs.steps.decode_input.Goals as goal

pub returns-clause-steps : goal.returns-clause-steps
returns-clause-steps c =
    let step = c.decode_window-step in
    let input = c.args.input.now in
    let len = c.window_len-len.result in
    input-steps c.args.layout c.args.reading.now step.new.reading input c.args.is_last c.is_last_window-is_last.result len step.result.read _ _ step.result.end c.end_at.result c.requires.known step.ensures.passes step.ensures.same
    c.window_len-len.ensures.within c.requires.none c.is_last_window-is_last.ensures.last step.ensures.read c.window_len-len.ensures.some
    c.end_at.ensures.whole c.end_at.ensures.other (c.is_kept.ensures.none c.if-is_kept.false)

pub returns-then-is_kept-clause-steps : goal.returns-then-is_kept-clause-steps
returns-then-is_kept-clause-steps c =
    let r = c.args.reading.now in
    let step = c.decode_window-step in
    let s = step.new.reading in
    let input = c.args.input.now in
    let m = c.window_len-len.result in
    let n = step.result.read in
    let a = c.append_unread.ensures in
    let t = c.append_unread.new.reading in
    let us = take step.result.written step.new.units in
    let room = length step.new.units - step.result.written in
    let found = c.is_kept.ensures.some c.if-is_kept.true in
    let passes = subst (PassesWindow c.args.layout r s (take m input) c.is_last_window-is_last.result n us room) found.1 step.ensures.passes in
    let all : m ≡ length input = omega (arith, found.0, c.window_len-len.ensures.within) in
    let none : unread_of r ≡ [] = ap (λ k. take k r.unread) c.requires.none in
    let whole : take m input ≡ input = take_all m input (omega (arith, all)) in
    let t-unread : unread_of t ≡ drop n (take m input) = a.unread ∙ ap (λ xs. xs ++ take (length input - n) (drop n input)) (same-kept r s step.ensures.same ∙ none) ∙ rest-slice input n ∙ ap (drop n) (sym whole) in
    let rest-len : length (take (length input - n) (drop n input)) ≡ length input - n = omega (arith, ap length (rest-slice input n), length-drop n input) in
    kept-steps c.args.layout r s t input (take m input) c.args.is_last c.is_last_window-is_last.result m n us room c.requires.known passes step.ensures.same a.same (ap (λ xs. xs ++ take m input) (sym none)) all
    c.is_last_window-is_last.ensures.last c.is_last_window-is_last.ensures.other t-unread (omega (arith, a.len, rest-len, step.ensures.same.unread_len, c.requires.none, step.ensures.read, ap length whole))
    (omega (arith, ap length t-unread, length-drop n (take m input), ap length whole, a.len, rest-len, step.ensures.same.unread_len, c.requires.none))
