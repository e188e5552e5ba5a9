use Rattle.wide_forms.specs.Laws.Splices.{IsWellFormed-nil}
use Rattle.wide_utfstring.proofs.utfstring.UtfString.clear.Goals as goal

pub invariant_of-self : goal.invariant_of-self
invariant_of-self g c = rw c.clear.ensures.units (IsWellFormed-nil g.C.Unit.form)
