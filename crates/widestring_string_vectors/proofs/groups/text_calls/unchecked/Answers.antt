use Rattle.std.proofs.Common.{sym}
use Rattle.widestring_string_vectors.proofs.groups.text_calls.unchecked.Goals as goal

pub from_ucstring_unchecked-requires : goal.from_ucstring_unchecked-requires
from_ucstring_unchecked-requires g c = rw (sym c.as_ucstr.ensures) c.in-Ok.ensures.ok
