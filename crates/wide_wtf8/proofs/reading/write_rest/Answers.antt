use Rattle.std.proofs.Common.{◌≡◌, ◌-◌, ◌<◌, ◌++◌, [], length, length-append, length-take-le, take, drop, sym, subst, arith}
use Rattle.wide_wtf8.specs.Faults.{AreUnitsAfter}
use Rattle.wide_wtf8.specs.Laws.{part-end}
use Rattle.wide_wtf8.specs.Parts.{IsNext}
use Rattle.wide_wtf8.proofs.DecodedParts.{later-fault, take-copied, units-after}
use Rattle.wide_wtf8.proofs.reading.write_rest.Goals as goal

pub returns-then-part-units-clause-none : goal.returns-then-part-units-clause-none
returns-then-part-units-clause-none c =
    let e = c.decode_part-part.ensures in
    let r = c.decode_part-part.result in
    let few = c.decode_part-part.new.units in
    let end : drop r.read c.args.bytes.now ≡ [] = subst (IsNext r.after_high (drop r.read c.args.bytes.now) _) c.in-End.is e.next in
    (take r.written few, part-end c.args.after_high r.after_high c.args.bytes.now (take r.written few) r.read e.part end, omega (arith, c.if-part-units.true, length-take-le r.written few e.written))

pub returns-else-part-units-clause-text : goal.returns-else-part-units-clause-text
returns-else-part-units-clause-text c =
    let e = c.decode_part-part.ensures in
    let r = c.decode_part-part.result in
    let few = c.decode_part-part.new.units in
    let end : drop r.read c.args.bytes.now ≡ [] = subst (IsNext r.after_high (drop r.read c.args.bytes.now) _) c.in-End.is e.next in
    let all = part-end c.args.after_high r.after_high c.args.bytes.now (take r.written few) r.read e.part end in
    subst (AreUnitsAfter c.args.after_high c.args.bytes.now) (sym (take-copied few _ (drop r.written c.args.units.now) r.written c.copy_from_slice.ensures.after e.written)) all

pub returns-in-Ok-clause-none : goal.returns-in-Ok-clause-none
returns-in-Ok-clause-none c =
    let e = c.decode_part-part.ensures in
    let r = c.decode_part-part.result in
    let few = c.decode_part-part.new.units in
    let bs = c.args.bytes.now in
    let rest = c.in-Ok.ensures.len in
    let more : (0 < length (drop r.read bs)) × (length few - r.written < 2) = subst (IsNext r.after_high (drop r.read bs) _) c.in-More.is e.next in
    let space : length few ≡ 4 = c.decode_part-part.auto.units in
    (take r.written few ++ rest.0, units-after c.args.after_high r.after_high bs (take r.written few) r.read e.part rest.0 rest.1, omega (arith, c.requires, more.1, space, length-take-le r.written few e.written, length-append (take r.written few) rest.0))

pub returns-in-Err-clause-fault : goal.returns-in-Err-clause-fault
returns-in-Err-clause-fault c =
    let e = c.decode_part-part.ensures in
    let r = c.decode_part-part.result in
    later-fault c.args.after_high r.after_high c.args.bytes.now (take r.written c.decode_part-part.new.units) r.read e.part c.in-Err.fault.index c.in-Err.fault.len e.read c.in-Err.ensures.fault
