use Rattle.std.proofs.Common.{◌≡◌, ◌-◌, ◌≤◌, length, map, take, drop}
use Rattle.wide_forms.specs.EncodingForm.{code_units}
use Rattle.wide_forms.specs.Items.{items}
use Rattle.wide_forms.specs.Utf8.{utf8_bytes}
use Rattle.widestring_c.specs.Parts.{Converts}
use Rattle.widestring_c.proofs.parts.put_utf8_runs.Given as goal

abbrev pub invariant-runs : goal.invariant-runs
invariant-runs g l = record {
  converts : Converts (items g.C.Unit.form) (code_units g.C.Unit.form) utf8_bytes (map g.C.Unit.number l.units) l.read (take l.written l.text);
  read : l.read ≤ length l.units;
  within : l.written ≤ length l.text;
  space : length l.text ≡ length l.fn.text;
  beyond : drop l.written l.text ≡ drop l.written l.fn.text;
  chunk : 64 ≤ length l.chunk;
}

abbrev pub decreases-runs : goal.decreases-runs
decreases-runs g l = length l.units - l.read
