use Rattle.std.proofs.Common.{◌≡◌, ◌-◌, ◌≤◌, length, map, take, drop}
use Rattle.wide_forms.specs.EncodingForm.{code_units}
use Rattle.wide_forms.specs.Utf8.{utf8_bytes}
use Rattle.wide_conversions.specs.Utf8Items.{utf8_items}
use Rattle.widestring_c.specs.Parts.{Converts}
use Rattle.widestring_c.proofs.parts.put_decoded_runs.Given as goal

abbrev pub invariant-runs : goal.invariant-runs
invariant-runs g l = record {
  converts : Converts utf8_items utf8_bytes (code_units g.D.Unit.form) l.text l.read (map g.D.Unit.number (take l.written l.units));
  read : l.read ≤ length l.text;
  within : l.written ≤ length l.units;
  space : length l.units ≡ length l.fn.units;
  beyond : drop l.written l.units ≡ drop l.written l.fn.units;
  chunk : 2 ≤ length l.chunk;
}

abbrev pub decreases-runs : goal.decreases-runs
decreases-runs g l = length l.text - l.read
