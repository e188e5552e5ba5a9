use Rattle.wide_ustr.specs.View.{units_seen}
use Rattle.wide_utfstring.proofs.Edits.{repeated}
use Rattle.wide_utfstring.proofs.view.UtfStrUtfStrInUtfstring.repeat.Goals as goal

pub from_ustring_unchecked-requires : goal.from_ustring_unchecked-requires
from_ustring_unchecked-requires g c = rw c.in_ok-string.ensures.units (repeated g.C.Unit.form g.C.Unit.number c.args.count (units_seen c.as_ustr.result) c.as_ustr.ensures.well_formed)
