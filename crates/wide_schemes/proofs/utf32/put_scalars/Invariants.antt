use Rattle.std.proofs.Common.{◌≡◌, ◌-◌, ◌≤◌, length, take}
use Rattle.wide_forms.specs.EncodingForm.{Utf16, encode}
use Rattle.wide_schemes.proofs.utf32.put_scalars.Given as goal

abbrev pub invariant-prefixes : goal.invariant-prefixes
invariant-prefixes l = record {
  within : l.read ≤ length l.codes;
  space : l.written ≤ length l.units;
  text : take l.written l.units ≡ encode Utf16 (take l.read l.codes);
}

abbrev pub decreases-prefixes : goal.decreases-prefixes
decreases-prefixes l = length l.codes - l.read

abbrev pub invariant-ones : goal.invariant-ones
invariant-ones l = record {
  within : l.read ≤ length l.codes;
  space : l.written ≤ length l.units;
  text : take l.written l.units ≡ encode Utf16 (take l.read l.codes);
}

abbrev pub decreases-ones : goal.decreases-ones
decreases-ones l = length l.codes - l.read
