use Rattle.wide_forms.specs.Laws.Splices.{IsWellFormed-nil}
use Rattle.wide_utfstr.proofs.view.UtfStrDefault.default.Goals as goal

pub invariant_of-result : goal.invariant_of-result
invariant_of-result g c = record { well_formed = IsWellFormed-nil g.C.Unit.form }
