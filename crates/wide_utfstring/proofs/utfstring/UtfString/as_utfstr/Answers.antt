use Rattle.wide_utfstring.proofs.utfstring.UtfString.as_utfstr.Goals as goal

pub from_slice_unchecked-requires : goal.from_slice_unchecked-requires
from_slice_unchecked-requires g c = rw c.as_slice.ensures c.self.invariant
