use Rattle.wide_schemes.specs.Wtf8Laws.{wtf8-unique}
use Rattle.wide_wtf8.proofs.laws.one_list_of_units.Goals as goal

pub returns : goal.returns
returns c = wtf8-unique
