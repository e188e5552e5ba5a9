use Rattle.std.proofs.Common.{arith, nat_le}
use Rattle.std.proofs.lemmas.List.Sums.{count_by-le-length}
use Rattle.widestring_c.proofs.Pairs.{units-counted}
use Rattle.widestring_c.proofs.lengths.wide_utf32_utf16_length.Goals as goal

pub returns-in-None-clause-len : goal.returns-in-None-clause-len
returns-in-None-clause-len c well = units-counted c.args.units.now c.count_pairs.result well c.count_pairs.ensures

pub returns-in-None-clause-no_fault : goal.returns-in-None-clause-no_fault
returns-in-None-clause-no_fault c well = omega (arith, c.count_pairs.ensures, count_by-le-length (nat_le 0x1_0000) c.args.units.now)
