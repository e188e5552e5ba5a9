use Rattle.std.proofs.Common.{length, drop, arith}
use Rattle.wide_wtf8.proofs.DecodedWindows.{next-last, units-few}
use Rattle.wide_wtf8.proofs.decoding.decode_window.Goals as goal

pub returns-then-bytes-le-WINDOW-clause-next : goal.returns-then-bytes-le-WINDOW-clause-next
returns-then-bytes-le-WINDOW-clause-next c =
    let e = c.decode_part.ensures in
    let r = c.decode_part.result in
    let units = c.decode_part.new.units in
    next-last r.after_high (drop r.read c.args.bytes.now) r.read r.written (length units) r.next (omega (arith, c.requires, c.decode_part.auto.units)) (units-few c.args.after_high r.after_high c.args.bytes.now units r.read r.written e.written e.part) e.next
