use Rattle.std.proofs.Common.{◌≡◌, ◌-◌, ◌<◌, length, length-take-le, take, drop, subst, arith}
use Rattle.wide_schemes.specs.Layouts.{BeginsWithFault, StopsBefore}
use Rattle.wide_convert.proofs.Passing.{window-end}
use Rattle.wide_convert.proofs.window.decode_window.Goals as goal

pub returns-in-Fault-clause-passes : goal.returns-in-Fault-clause-passes
returns-in-Fault-clause-passes c =
    let text = c.pass_text-step in
    let fault = c.pass_fault-fault in
    let bytes = c.args.bytes.now in
    let layout = c.args.layout in
    let r = c.args.reading.now in
    let room = length text.new.units - text.result.written in
    let us = take text.result.written text.new.units in
    let vs = take fault.result.written fault.new.units in
    let begins : BeginsWithFault layout r.keeps text.new.reading.after_high (drop text.result.read bytes) c.args.is_last c.in-Fault.unit c.in-Fault.len =
    subst (StopsBefore layout r.keeps text.new.reading.after_high (drop text.result.read bytes) c.args.is_last room) c.in-Fault.is text.ensures.stop in
    let space = length fault.new.units - text.result.written in
    let full : space ≡ 0 → length vs ≡ length us → length fault.new.units - fault.result.written < 2 = λ none same. omega (arith, none, same, length-take-le text.result.written text.new.units text.ensures.written, length-take-le fault.result.written fault.new.units fault.ensures.written, fault.auto.units, text.ensures.written) in
    window-end layout r text.new.reading fault.new.reading bytes c.args.is_last text.result.read c.in-Fault.len c.in-Fault.unit us text.ensures.passes text.ensures.spans text.ensures.same fault.ensures.high text.ensures.read begins
    fault.result.read vs space (length fault.new.units - fault.result.written) fault.result.end full fault.ensures.step
