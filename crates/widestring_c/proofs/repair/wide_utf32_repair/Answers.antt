use Rattle.std.proofs.Common.{◌∙◌, length}
use Rattle.wide_forms.specs.EncodingForm.{Utf32}
use Rattle.wide_forms.specs.Laws.Utf32.{encode32}
use Rattle.widestring_c.proofs.Repaired.{repaired}
use Rattle.widestring_c.proofs.repair.wide_utf32_repair.Goals as goal

pub returns-then-units-repaired-clause-units : goal.returns-then-units-repaired-clause-units
returns-then-units-repaired-clause-units c = λ _. repaired Utf32 c.args.units.now c.repair.new.repaired (length c.args.units.now) c.repair.ensures.units ∙ encode32 _
