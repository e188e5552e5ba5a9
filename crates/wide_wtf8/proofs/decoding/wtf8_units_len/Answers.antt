use Rattle.wide_wtf8.proofs.Faults.{len-of_text, valid-len}
use Rattle.wide_wtf8.proofs.decoding.wtf8_units_len.Goals as goal

pub returns-clause-valid : goal.returns-clause-valid
returns-clause-valid c = valid-len c.args.bytes.now c.units_len_after.result c.units_len_after.ensures.len c.units_len_after.ensures.fault

pub returns-clause-len : goal.returns-clause-len
returns-clause-len c = len-of_text c.args.bytes.now c.units_len_after.result c.units_len_after.ensures.len
