use Rattle.std.proofs.Common.{arith, take}
use Rattle.wide_utf16_to_utf8.proofs.PairedTexts.{IsCutWindow, IsWindow, IsWindowText, cut-window, window-paired_text, window-text}
use Rattle.wide_utf16_to_utf8.proofs.paired_text.put_paired_text.Goals as goal

pub overflow_sub-result-2 : goal.overflow_sub-result-2
overflow_sub-result-2 c =
    let ws = c.args.window.now in
    let is : IsWindow ws = record { long = c.requires.whole; fits = λ k. (c.type_inv.window k).fits; first = c.requires.first; pairs = c.requires.pairs } in
    let cut : IsCutWindow ws c.from-cut.result = cut-window ws c.from-cut.result c.from-cut.ensures in
    let stored = window-paired_text ws (take c.args.at c.args.out.now) (take c.put_eight_paired-half.result c.put_eight_paired-half.new.out) (take c.put_eight_paired-end.result c.put_eight_paired-end.new.out) c.requires.whole c.put_eight_paired-half.ensures.text c.put_eight_paired-end.ensures.text in
    let text : IsWindowText ws c.args.out.now c.put_eight_paired-end.new.out c.args.at c.put_eight_paired-end.result c.from-cut.result = window-text ws c.args.out.now c.put_eight_paired-end.new.out c.args.at c.put_eight_paired-end.result c.from-cut.result is cut (omega (arith, c.requires.space)) (omega (arith, c.requires.space, c.put_eight_paired-half.ensures.high, c.put_eight_paired-end.ensures.high, c.put_eight_paired-end.auto.out, c.put_eight_paired-half.auto.out)) stored in
    text.least

pub returns-clause-text : goal.returns-clause-text
returns-clause-text c =
    let ws = c.args.window.now in
    let is : IsWindow ws = record { long = c.requires.whole; fits = λ k. (c.type_inv.window k).fits; first = c.requires.first; pairs = c.requires.pairs } in
    let cut : IsCutWindow ws c.from-cut.result = cut-window ws c.from-cut.result c.from-cut.ensures in
    let stored = window-paired_text ws (take c.args.at c.args.out.now) (take c.put_eight_paired-half.result c.put_eight_paired-half.new.out) (take c.put_eight_paired-end.result c.put_eight_paired-end.new.out) c.requires.whole c.put_eight_paired-half.ensures.text c.put_eight_paired-end.ensures.text in
    let text : IsWindowText ws c.args.out.now c.put_eight_paired-end.new.out c.args.at c.put_eight_paired-end.result c.from-cut.result = window-text ws c.args.out.now c.put_eight_paired-end.new.out c.args.at c.put_eight_paired-end.result c.from-cut.result is cut (omega (arith, c.requires.space)) (omega (arith, c.requires.space, c.put_eight_paired-half.ensures.high, c.put_eight_paired-end.ensures.high, c.put_eight_paired-end.auto.out, c.put_eight_paired-half.auto.out)) stored in
    text.text

pub returns-clause-high : goal.returns-clause-high
returns-clause-high c =
    let ws = c.args.window.now in
    let is : IsWindow ws = record { long = c.requires.whole; fits = λ k. (c.type_inv.window k).fits; first = c.requires.first; pairs = c.requires.pairs } in
    let cut : IsCutWindow ws c.from-cut.result = cut-window ws c.from-cut.result c.from-cut.ensures in
    let stored = window-paired_text ws (take c.args.at c.args.out.now) (take c.put_eight_paired-half.result c.put_eight_paired-half.new.out) (take c.put_eight_paired-end.result c.put_eight_paired-end.new.out) c.requires.whole c.put_eight_paired-half.ensures.text c.put_eight_paired-end.ensures.text in
    let text : IsWindowText ws c.args.out.now c.put_eight_paired-end.new.out c.args.at c.put_eight_paired-end.result c.from-cut.result = window-text ws c.args.out.now c.put_eight_paired-end.new.out c.args.at c.put_eight_paired-end.result c.from-cut.result is cut (omega (arith, c.requires.space)) (omega (arith, c.requires.space, c.put_eight_paired-half.ensures.high, c.put_eight_paired-end.ensures.high, c.put_eight_paired-end.auto.out, c.put_eight_paired-half.auto.out)) stored in
    text.most
