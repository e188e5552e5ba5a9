use Rattle.std.proofs.Common.{◌≡◌, length, drop}
use Rattle.wide_bytes.specs.Bytes.{units_in}
use Rattle.wide_transcode.specs.Lossied.{lossy_text}
use Rattle.widestring_c.proofs.Buffers.{Writing}
use Rattle.widestring_c.proofs.bytes.put_bytes_by.Given as goal

abbrev pub invariant-chunks : goal.invariant-chunks
invariant-chunks l = record {
  so_far : Writing (lossy_text l.policy l.after_fault (units_in l.order l.bytes)) l.at l.text (lossy_text l.policy l.after (units_in l.order l.rest));
  space : length l.text ≡ length l.fn.text;
  beyond : drop l.at l.text ≡ drop l.at l.fn.text;
}

abbrev pub decreases-chunks : goal.decreases-chunks
decreases-chunks l = length l.rest
