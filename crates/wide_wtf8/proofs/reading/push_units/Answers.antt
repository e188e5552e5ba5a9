use Rattle.std.proofs.Common.{◌≡◌, ◌-◌, ◌<◌, [], false, length, take, drop, ap, sym, refl, ◌∙◌, subst, arith}
use Rattle.std.proofs.lemmas.List.{append-nil}
use Rattle.wide_wtf8.specs.Laws.{fault-no_text, part-none}
use Rattle.wide_wtf8.specs.Parts.{BeginsWithFault, IsNextOf}
use Rattle.wide_wtf8.proofs.DecodedParts.{all-appended, appended, fault-after, no-units, within-rest}
use Rattle.wide_wtf8.proofs.reading.push_units.Goals as goal

pub parts-init : goal.parts-init
parts-init g c = record {
  valid = c.requires;
  within = omega arith;
  space = refl;
  so_far = ([], part-none false c.args.bytes.now, sym (append-nil c.args.units.now.items));
}

pub returns-in_err-extend_from_slice-clause-succeeds : goal.returns-in_err-extend_from_slice-clause-succeeds
returns-in_err-extend_from_slice-clause-succeeds g c = λ none.
    let e = c.decode_window-part.ensures in
    let r = c.decode_window-part.result in
    let units = c.decode_window-part.new.units in
    let empty = no-units false c.parts.after_high r.after_high c.args.bytes.now units c.parts.read r.read r.written e.written e.part none e.read in
    let nothing : length (take r.written units) ≡ 0 = ap (λ k. length (take k units)) empty in
    let failed = c.in_err-extend_from_slice.ensures.succeeds (omega (arith, nothing, c.parts.units.ok)) in absurd cc

pub returns-in-End-clause-units : goal.returns-in-End-clause-units
returns-in-End-clause-units g c =
    let e = c.decode_window-part.ensures in
    let r = c.decode_window-part.result in
    let i = c.parts.invariant in
    let bs = c.args.bytes.now in
    let end : drop r.read (take (length bs - c.parts.read) (drop c.parts.read bs)) ≡ [] = subst (IsNextOf r.after_high (drop r.read (take (length bs - c.parts.read) (drop c.parts.read bs))) _) c.in-End.is e.next in
    all-appended false c.parts.after_high r.after_high bs c.decode_window-part.new.units c.parts.read r.read r.written e.written e.part i.so_far.0 c.args.units.now.items c.parts.units.items _ i.so_far.1 i.so_far.2 c.in_ok-extend_from_slice.ensures.items end

pub parts-smaller : goal.parts-smaller
parts-smaller g c =
    let e = c.decode_window-part.ensures in
    let r = c.decode_window-part.result in
    let i = c.parts.invariant in
    let bs = c.args.bytes.now in
    let units = c.decode_window-part.new.units in
    let more : 0 < r.read = subst (IsNextOf r.after_high (drop r.read (take (length bs - c.parts.read) (drop c.parts.read bs))) r.read) c.in-More.is e.next in
    omega (arith, within-rest bs c.parts.read r.read i.within e.read, more)

pub parts-preserved : goal.parts-preserved
parts-preserved g c =
    let e = c.decode_window-part.ensures in
    let r = c.decode_window-part.result in
    let i = c.parts.invariant in
    let bs = c.args.bytes.now in
    record {
      valid = i.valid;
      within = within-rest bs c.parts.read r.read i.within e.read;
      space = c.decode_window-part.auto.units ∙ i.space;
      so_far = appended false c.parts.after_high r.after_high bs c.decode_window-part.new.units c.parts.read r.read r.written e.written e.part i.so_far.0 c.args.units.now.items c.parts.units.items _ i.so_far.1 i.so_far.2 c.in_ok-extend_from_slice.ensures.items;
    }

pub unreachable-requires : goal.unreachable-requires
unreachable-requires g c =
    let e = c.decode_window-part.ensures in
    let r = c.decode_window-part.result in
    let i = c.parts.invariant in
    let bs = c.args.bytes.now in
    let fault : BeginsWithFault r.after_high (drop r.read (take (length bs - c.parts.read) (drop c.parts.read bs))) c.in-Fault._len = subst (IsNextOf r.after_high (drop r.read (take (length bs - c.parts.read) (drop c.parts.read bs))) _) c.in-Fault.is e.next in
    fault-no_text bs _ c.in-Fault._len (fault-after false c.parts.after_high r.after_high bs c.decode_window-part.new.units c.parts.read r.read r.written e.written e.part i.so_far.0 c.in-Fault._len i.within e.read i.so_far.1 fault) i.valid
