use Rattle.std.proofs.Common.{◌≤◌, length, take, drop, sym, subst, arith}
use Rattle.std.proofs.lemmas.List.Elements.{All-take}
use Rattle.wide_forms.specs.EncodingForm.{Utf16, IsCodeUnit}
use Rattle.wide_wtf8.specs.Laws.{part-window}
use Rattle.wide_wtf8.specs.Parts.{IsNextOf, IsPart}
use Rattle.wide_wtf8.proofs.DecodedWindows.{next-window, split-at, units-few}
use Rattle.wide_wtf8.proofs.Lengths.{all-units}
use Rattle.wide_wtf8.proofs.decoding.decode_before.Goals as goal

pub returns-clause-part : goal.returns-clause-part
returns-clause-part c =
    let e = c.decode_wtf8-step.ensures in
    let r = c.decode_wtf8-step.result in
    let units = c.decode_wtf8-step.new.units in
    let s = c.split_at.ensures in
    part-window c.args.after_high r.after_high c.args.bytes.now c.split_at.result.0.now c.split_at.result.1.now _ r.read (split-at c.args.bytes.now _ _ c.args.end s.front s.back) e.read (All-take (IsCodeUnit Utf16) r.written units (all-units units c.type_inv.units)) e.bytes e.items

pub returns-clause-next : goal.returns-clause-next
returns-clause-next c =
    let e = c.decode_wtf8-step.ensures in
    let r = c.decode_wtf8-step.result in
    let bs = c.args.bytes.now in
    let units = c.decode_wtf8-step.new.units in
    let s = c.split_at.ensures in
    let part : IsPart c.args.after_high bs r.read (take r.written units) r.after_high = returns-clause-part c in
    let few : r.written ≤ r.read = units-few c.args.after_high r.after_high bs units r.read r.written e.written part in
    let next = next-window r.after_high bs c.split_at.result.0.now c.split_at.result.1.now r.read r.written (length units) r.stop (split-at bs _ _ c.args.end s.front s.back) e.read (omega (arith, s.front_len, c.requires.some)) (omega (arith, s.front_len, c.requires.space, c.decode_wtf8-step.auto.units)) few e.stop in
    subst (IsNextOf r.after_high (drop r.read bs) r.read) (sym c.next_within.ensures) next
