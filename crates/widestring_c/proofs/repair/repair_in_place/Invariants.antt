use Rattle.std.proofs.Common.{◌≡◌, ◌+◌, ◌-◌, ◌++◌, ◌≤◌, length, map, take, drop}
use Rattle.wide_forms.specs.EncodingForm.{encode}
use Rattle.wide_forms.specs.Items.{items}
use Rattle.wide_forms.specs.Lossy.{lossy}
use Rattle.wide_convert.specs.Texts.{faults_in}
use Rattle.widestring_c.proofs.repair.repair_in_place.Given as goal

abbrev pub invariant-faults : goal.invariant-faults
invariant-faults g l = record {
  within : l.at ≤ length l.units;
  space : length l.units ≡ length l.fn.units;
  few : l.count ≤ l.at;
  repaired : map g.C.Unit.number (take l.at l.units) ++ encode g.C.Unit.form (lossy (items g.C.Unit.form (map g.C.Unit.number (drop l.at l.units)))) ≡ encode g.C.Unit.form (lossy (items g.C.Unit.form (map g.C.Unit.number l.fn.units)));
  counted : l.count + faults_in (items g.C.Unit.form (map g.C.Unit.number (drop l.at l.units))) ≡ faults_in (items g.C.Unit.form (map g.C.Unit.number l.fn.units));
}

abbrev pub decreases-faults : goal.decreases-faults
decreases-faults g l = length l.units - l.at
