use Rattle.std.proofs.Common.{arith}
use Rattle.wide_forms.specs.EncodingForm.{Utf16}
use Rattle.wide_bytes.specs.Bytes.{units_in}
use Rattle.wide_bytes.proofs.Pairs.{length-units_in}
use Rattle.widestring_c.proofs.Fits.{bytes-lossy_after}
use Rattle.widestring_c.proofs.bytes.put_bytes.Goals as goal

pub returns : goal.returns
returns c =
    let e = c.put_bytes_by.ensures in
    let most = bytes-lossy_after Utf16 c.args.policy c.args.after_fault (units_in c.args.order c.args.bytes.now) in
    record {
      len = omega (arith, e.len, most, length-units_in c.args.order c.args.bytes.now);
      fits = omega (arith, e.len, most, length-units_in c.args.order c.args.bytes.now);
      text = e.text;
      beyond = e.beyond;
    }
