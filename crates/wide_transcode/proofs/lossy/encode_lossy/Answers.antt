use Rattle.std.proofs.Common.{◌≡◌, length, take, sym, ap, ◌∙◌, arith, length-take-le}
use Rattle.wide_transcode.specs.Lossied.{lossy_text}
use Rattle.wide_transcode.proofs.Certain.{valid-text, lossied-certain}
use Rattle.wide_bytes.proofs.Pairs.{length-units_in}
use Rattle.wide_transcode.proofs.lossy.encode_lossy.Goals.{in-Some, in-None}
use Rattle.wide_transcode.proofs.lossy.encode_lossy.Goals as goal

pub slice_bounds-certain-end : goal.slice_bounds-certain-end
slice_bounds-certain-end c =
    let k = c.certain_len-len.result in
    sym (length-take-le k c.args.units.now (omega (arith, c.certain_len-len.ensures.within, ap length c.requires.units, length-units_in c.args.order c.args.bytes.now)))

pub returns-clause-text : goal.returns-clause-text
returns-clause-text c =
    let k = c.certain_len-len.result in
    let us = c.args.units.now in
    let text : take c.match-checked_utf16_to_utf8.written c.match-checked_utf16_to_utf8.out ≡ lossy_text c.args.policy c.args.after_fault (take k us) =
    elim c.match-checked_utf16_to_utf8.branch [
      | in-Some w ↦ ap (λ n. take n c.match-checked_utf16_to_utf8.out) w.written-is ∙ ap (λ t. take w.in-Some.written t) w.out-is ∙ w.in-Some.ensures.text ∙ valid-text c.args.policy c.args.after_fault (take k us) w.in-Some.ensures.valid
      | in-None w ↦ ap (λ n. take n c.match-checked_utf16_to_utf8.out) w.written-is ∙ ap (λ t. take w.encode_faulty-written.result t) w.out-is ∙ w.encode_faulty-written.ensures.text
    ] in
    lossied-certain c.args.after_fault c.ends_in_fault.result c.args.bytes.now us (take c.match-checked_utf16_to_utf8.written c.match-checked_utf16_to_utf8.out) k c.requires.units c.certain_len-len.ensures.within c.ends_in_fault.ensures text c.certain_len-len.ensures.cut c.certain_len-len.ensures.no_zero
