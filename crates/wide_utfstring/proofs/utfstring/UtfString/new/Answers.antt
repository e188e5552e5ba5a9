use Rattle.wide_forms.specs.Laws.Splices.{IsWellFormed-nil}
use Rattle.wide_utfstring.proofs.utfstring.UtfString.new.Goals as goal

pub invariant_of-result : goal.invariant_of-result
invariant_of-result g c = rw c.new.ensures.units (IsWellFormed-nil g.C.Unit.form)
