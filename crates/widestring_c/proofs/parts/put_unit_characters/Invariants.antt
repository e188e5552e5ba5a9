use Rattle.std.proofs.Common.{◌≡◌, ◌-◌, ◌≤◌, length, map, take, drop}
use Rattle.wide_forms.specs.EncodingForm.{code_units}
use Rattle.wide_forms.specs.Items.{items}
use Rattle.widestring_c.specs.Parts.{Converts}
use Rattle.widestring_c.proofs.parts.put_unit_characters.Given as goal

abbrev pub invariant-characters : goal.invariant-characters
invariant-characters g l = record {
  converts : Converts (items g.C.Unit.form) (code_units g.C.Unit.form) (code_units g.D.Unit.form) (map g.C.Unit.number l.units) l.read (map g.D.Unit.number (take l.written l.out));
  read : l.read ≤ length l.units;
  within : l.written ≤ length l.out;
  space : length l.out ≡ length l.fn.out;
  beyond : drop l.written l.out ≡ drop l.written l.fn.out;
  chunk : 2 ≤ length l.chunk;
}

abbrev pub decreases-characters : goal.decreases-characters
decreases-characters g l = length l.units - l.read
