use Rattle.std.proofs.Common.{◌≡◌, ◌≤◌, ◌+◌, ◌*◌, ◌-◌, ◌++◌, length, map, take, drop}
use Rattle.wide_forms.specs.EncodingForm.{encode}
use Rattle.wide_forms.specs.Items.{IsWellFormed, chars}
use Rattle.wide_from_units.proofs.between_forms.put_ones.Given as goal

abbrev pub invariant-ones : goal.invariant-ones
invariant-ones g l = record {
  within : length l.rest ≤ length l.units;
  from : l.fn.at ≤ l.written;
  few : l.written + 2 * length l.rest ≤ l.fn.at + 2 * length l.units;
  space : l.written ≤ l.fn.at + 16;
  beyond : l.rest ≡ drop (length l.units - length l.rest) l.units;
  units : map g.D.Unit.number (take l.fn.at l.fn.out) ++ encode g.D.Unit.form (chars g.C.Unit.form (map g.C.Unit.number l.units))
      ≡ map g.D.Unit.number (take l.written l.out) ++ encode g.D.Unit.form (chars g.C.Unit.form (map g.C.Unit.number l.rest));
  well_formed : IsWellFormed g.C.Unit.form (map g.C.Unit.number l.rest);
}

abbrev pub decreases-ones : goal.decreases-ones
decreases-ones g l = length l.rest
