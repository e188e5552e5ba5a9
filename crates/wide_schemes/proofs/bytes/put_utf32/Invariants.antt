use Rattle.std.proofs.Common.{◌≡◌, ◌-◌, ◌*◌, ◌≤◌, ◌++◌, length, take, drop}
use Rattle.wide_forms.specs.EncodingForm.{Utf16}
use Rattle.wide_forms.specs.Items.{IsWellFormed, chars}
use Rattle.wide_schemes.specs.Layouts.{bytes32_in}
use Rattle.wide_schemes.proofs.bytes.put_utf32.Given as goal

-- The bytes written so far are followed by those of the units that are left.
abbrev pub invariant-loop-read : goal.invariant-loop-read
invariant-loop-read l = record {
  within : l.read ≤ length l.units;
  block : length l.codes ≡ 128;
  room : l.written ≤ 4 * l.read;
  long : length l.out ≡ length l.fn.out;
  text : bytes32_in l.order (chars Utf16 l.units) ≡ take l.written l.out ++ bytes32_in l.order (chars Utf16 (drop l.read l.units));
  rest : IsWellFormed Utf16 (drop l.read l.units);
}

abbrev pub decreases-loop-read : goal.decreases-loop-read
decreases-loop-read l = length l.units - l.read
