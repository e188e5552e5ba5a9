use Rattle.std.proofs.Common.{map}
use Rattle.wide_forms.specs.Items.{items}
use Rattle.wide_forms.specs.Lossy.{lossy_by}
use Rattle.wide_forms.specs.Laws.Policies.{scalars-lossy_by}
use Rattle.wide_from_units.proofs.Utf8Texts.{IsUtf8-utf8}
use Rattle.wide_from_units.proofs.strings.lossy_string.Goals as goal

pub from_utf8_unchecked-requires : goal.from_utf8_unchecked-requires
from_utf8_unchecked-requires g c =
    let us = map g.C.Unit.number c.args.units.now in
    rw (c.in_ok-push_lossy.ensures, c.in_ok-text.ensures.items) (IsUtf8-utf8 (lossy_by c.args.policy (items g.C.Unit.form us)) (scalars-lossy_by c.args.policy g.C.Unit.form us))
