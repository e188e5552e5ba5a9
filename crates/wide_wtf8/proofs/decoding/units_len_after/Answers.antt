use Rattle.std.proofs.Common.{◌≡◌, ◌-◌, ◌<◌, [], length, take, drop, ◌∙◌, subst, arith}
use Rattle.wide_wtf8.specs.Parts.{BeginsWithFault, IsNextOf}
use Rattle.wide_wtf8.proofs.DecodedParts.{all-counted, counted, fault-after, short, within-rest}
use Rattle.wide_wtf8.proofs.decoding.units_len_after.Goals as goal

pub returns-in-End-clause-len : goal.returns-in-End-clause-len
returns-in-End-clause-len c =
    let e = c.decode_window-part.ensures in
    let r = c.decode_window-part.result in
    let bs = c.args.bytes.now in
    let end : drop r.read (take (length bs - c.parts.read) (drop c.parts.read bs)) ≡ [] = subst (IsNextOf r.after_high (drop r.read (take (length bs - c.parts.read) (drop c.parts.read bs))) _) c.in-End.is e.next in
    all-counted c.args.after_high c.parts.after_high r.after_high bs c.decode_window-part.new.units c.parts.read r.read r.written e.written e.part c.parts.len c.parts.invariant.counted end

pub parts-smaller : goal.parts-smaller
parts-smaller c =
    let e = c.decode_window-part.ensures in
    let r = c.decode_window-part.result in
    let i = c.parts.invariant in
    let bs = c.args.bytes.now in
    let units = c.decode_window-part.new.units in
    let more : 0 < r.read = subst (IsNextOf r.after_high (drop r.read (take (length bs - c.parts.read) (drop c.parts.read bs))) r.read) c.in-More.is e.next in
    omega (arith, within-rest bs c.parts.read r.read i.within e.read, more)

pub parts-preserved : goal.parts-preserved
parts-preserved c =
    let e = c.decode_window-part.ensures in
    let r = c.decode_window-part.result in
    let i = c.parts.invariant in
    let bs = c.args.bytes.now in
    let units = c.decode_window-part.new.units in
    record {
      within = within-rest bs c.parts.read r.read i.within e.read;
      space = c.decode_window-part.auto.units ∙ i.space;
      counted = counted c.args.after_high c.parts.after_high r.after_high bs units c.parts.read r.read r.written e.written e.part c.parts.len i.counted;
      few = omega (arith, i.few, short c.args.after_high c.parts.after_high r.after_high bs units c.parts.read r.read r.written e.written e.part);
    }

pub returns-in-Fault-clause-fault : goal.returns-in-Fault-clause-fault
returns-in-Fault-clause-fault c =
    let e = c.decode_window-part.ensures in
    let r = c.decode_window-part.result in
    let i = c.parts.invariant in
    let bs = c.args.bytes.now in
    let fault : BeginsWithFault r.after_high (drop r.read (take (length bs - c.parts.read) (drop c.parts.read bs))) c.in-Fault.fault = subst (IsNextOf r.after_high (drop r.read (take (length bs - c.parts.read) (drop c.parts.read bs))) _) c.in-Fault.is e.next in
    fault-after c.args.after_high c.parts.after_high r.after_high bs c.decode_window-part.new.units c.parts.read r.read r.written e.written e.part i.counted.0 c.in-Fault.fault i.within e.read i.counted.1 fault
