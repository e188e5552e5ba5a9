use Rattle.std.proofs.Common.{◌≡◌, ◌≤◌, ◌*◌, ◌++◌, ◌-◌, length, map, take, drop}
use Rattle.wide_forms.specs.EncodingForm.{encode}
use Rattle.wide_forms.specs.Items.{IsWellFormed, chars}
use Rattle.wide_from_units.proofs.between_forms.between_forms_prefix.Given as goal

abbrev pub invariant-prefixes : goal.invariant-prefixes
invariant-prefixes g l = record {
  within : l.read ≤ length l.units;
  few : l.written ≤ 2 * l.read;
  space : l.written ≤ length l.out;
  units : encode g.D.Unit.form (chars g.C.Unit.form (map g.C.Unit.number l.units))
      ≡ map g.D.Unit.number (take l.written l.out) ++ encode g.D.Unit.form (chars g.C.Unit.form (map g.C.Unit.number (drop l.read l.units)));
  rest : IsWellFormed g.C.Unit.form (map g.C.Unit.number (drop l.read l.units));
}

abbrev pub decreases-prefixes : goal.decreases-prefixes
decreases-prefixes g l = length l.units - l.read
