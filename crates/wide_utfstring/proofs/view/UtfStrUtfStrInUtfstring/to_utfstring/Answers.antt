use Rattle.wide_utfstring.proofs.view.UtfStrUtfStrInUtfstring.to_utfstring.Goals as goal

pub from_ustring_unchecked-requires : goal.from_ustring_unchecked-requires
from_ustring_unchecked-requires g c = rw c.in_ok-string.ensures.units c.as_ustr.ensures.well_formed
