use Rattle.wide_convert.proofs.Halves.{units-become, wtf8-becomes}
use Rattle.wide_convert.proofs.laws.units_survive.Goals as goal

pub returns : goal.returns
returns c = record { wtf8 = units-become; units = wtf8-becomes }
