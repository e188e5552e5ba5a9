use Rattle.std.proofs.Common.{map, sym, subst}
use Rattle.wide_forms.specs.Items.{IsWellFormed}
use Rattle.wide_utfstr.proofs.view.UtfStr.from_ustr_unchecked.Goals as goal

pub from_slice_unchecked-requires : goal.from_slice_unchecked-requires
from_slice_unchecked-requires g c = subst (λ us. IsWellFormed g.C.Unit.form (map g.C.Unit.number us)) (sym c.as_slice.ensures) c.requires
