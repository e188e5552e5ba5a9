use Rattle.wide_forms.specs.Laws.Utf8.{code_point_at-text}
use Rattle.wide_unit.proofs.laws.code_points_of_text.Goals as goal

pub returns-clause-text : goal.returns-clause-text
returns-clause-text c = code_point_at-text
