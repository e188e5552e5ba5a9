use Rattle.std.proofs.Common.{sym, ap, arith, length, map, slice_range, subst}
use Rattle.wide_forms.specs.Items.{IsWellFormed}
use Rattle.wide_utfstring.proofs.iter.DrainUtf.as_utfstr.Goals as goal

pub from_slice_unchecked-requires : goal.from_slice_unchecked-requires
from_slice_unchecked-requires g c =
    let d = c.args.self.now in
    let same = c.as_slice-units.ensures.units in
    subst (λ us. IsWellFormed g.C.Unit.form (map g.C.Unit.number (slice_range us d.front d.back))) (sym same) (d.part (omega (arith, ap length same, c.if-units-self.false)))
