use Rattle.std.proofs.Common.{◌≡◌, ◌+◌, ◌<◌, ◌^◌, length, ap}
use Rattle.std.specs.Coded.{le_prop}
use Rattle.wide_unit.specs.declared.unit.Unit.{Ghosts}
use Rattle.wide_utfstr.specs.View.{units_seen}
use Rattle.wide_utfstr.specs.declared.iter.CharIndices.{CharIndices}
use Rattle.wide_utfstr.proofs.iter.CharIndicesClone.clone.Goals as goal

-- Two proofs of an inequality of numbers are equal.
same-indices : {C : Type 0} {g : Ghosts C} (s : CharIndices C g) (fits : s.offset + length (units_seen s.text) < 2 ^ 64) → ◌≡◌ {A = CharIndices C g} (record { text = s.text; offset = s.offset; fits = fits }) s
same-indices s fits =
    ap (λ (h : s.offset + length (units_seen s.text) < 2 ^ 64). record { text = s.text; offset = s.offset; fits = h }) (le_prop fits s.fits)

pub returns : goal.returns
returns g c = record { cases = same-indices c.args.self.now _ }
