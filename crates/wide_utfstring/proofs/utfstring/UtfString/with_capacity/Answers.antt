use Rattle.wide_forms.specs.Laws.Splices.{IsWellFormed-nil}
use Rattle.wide_utfstring.proofs.utfstring.UtfString.with_capacity.Goals as goal

pub invariant_of-result : goal.invariant_of-result
invariant_of-result g c = rw c.in_ok-with_capacity.ensures.units (IsWellFormed-nil g.C.Unit.form)
