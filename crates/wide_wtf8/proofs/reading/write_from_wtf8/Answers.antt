use Rattle.std.proofs.Common.{◌≡◌, ◌-◌, ◌<◌, ◌≤◌, ◌++◌, [], false, ℕ, List, IfSome, IfNone, length, length-append, length-drop, length-take, length-take-le, take, drop, subst, arith}
use Rattle.wide_schemes.proofs.Puts.{put-at}
use Rattle.wide_wtf8.specs.Faults.{AreUnitsAfter, IsWtf8Of}
use Rattle.wide_wtf8.specs.Laws.{part-end, text-of_units}
use Rattle.wide_wtf8.specs.Parts.{IsNext}
use Rattle.wide_wtf8.proofs.DecodedParts.{later-fault, units-after}
use Rattle.wide_wtf8.proofs.reading.write_from_wtf8.Goals as goal

pub returns-in-End-clause-text : goal.returns-in-End-clause-text
returns-in-End-clause-text c =
    let e = c.decode_part-part.ensures in
    let r = c.decode_part-part.result in
    let bs = c.args.bytes.now in
    let us = take r.written c.decode_part-part.new.units in
    let end : drop r.read bs ≡ [] = subst (IsNext r.after_high (drop r.read bs) _) c.in-End.is e.next in
    text-of_units bs us (part-end false r.after_high bs us r.read e.part end)

pub returns-in-Ok-Some-clause-text : goal.returns-in-Ok-Some-clause-text
returns-in-Ok-Some-clause-text c =
    let e = c.decode_part-part.ensures in
    let r = c.decode_part-part.result in
    let bs = c.args.bytes.now in
    let units = c.decode_part-part.new.units in
    let more = c.write_rest.new.units in
    let len = c.in-Ok-Some.len in
    let us = take r.written units in
    let vs = take len more in
    let rest = take (length bs - r.read) (drop r.read bs) in
    let written : AreUnitsAfter r.after_high rest vs = subst (λ o. IfSome o (λ n. AreUnitsAfter r.after_high rest (take n more))) c.in-Ok-Some.field-0-is c.in-Ok-Some.ensures.text in
    let fits : len ≤ length more = subst (λ o. IfSome o (λ n. n ≤ length more)) c.in-Ok-Some.field-0-is c.in-Ok-Some.ensures.len in
    let all = units-after false r.after_high bs us r.read e.part vs written in
    subst (λ xs. IsWtf8Of xs bs) (put-at units more r.written len (length units - r.written) e.written fits) (text-of_units bs (us ++ vs) all)

pub returns-in-Ok-None-clause-none : goal.returns-in-Ok-None-clause-none
returns-in-Ok-None-clause-none c =
    let e = c.decode_part-part.ensures in
    let r = c.decode_part-part.result in
    let bs = c.args.bytes.now in
    let units = c.decode_part-part.new.units in
    let us = take r.written units in
    let left = take (length bs - r.read) (drop r.read bs) in
    let room = take (length units - r.written) (drop r.written units) in
    let rest : (vs : List ℕ) × AreUnitsAfter r.after_high left vs × (length room < length vs) = subst (λ o. IfNone o ((vs : List ℕ) × AreUnitsAfter r.after_high left vs × (length room < length vs))) c.in-Ok-None.field-0-is c.in-Ok-None.ensures.none in
    let all = units-after false r.after_high bs us r.read e.part rest.0 rest.1 in
    (us ++ rest.0, text-of_units bs (us ++ rest.0) all, omega (arith, rest.2, e.written, c.decode_part-part.auto.units, length-take-le r.written units e.written, length-append us rest.0, length-take (length units - r.written) (drop r.written units), length-drop r.written units))

pub returns-in-Err-clause-fault : goal.returns-in-Err-clause-fault
returns-in-Err-clause-fault c =
    let e = c.decode_part-part.ensures in
    let r = c.decode_part-part.result in
    later-fault false r.after_high c.args.bytes.now (take r.written c.decode_part-part.new.units) r.read e.part c.in-Err.fault.index c.in-Err.fault.len e.read c.in-Err.ensures.fault
