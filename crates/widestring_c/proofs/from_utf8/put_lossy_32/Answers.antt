use Rattle.std.proofs.Common.{◌∙◌, ap, length, sym}
use Rattle.std.proofs.lemmas.List.{map-id}
use Rattle.wide_forms.specs.Lossy.{lossy_by}
use Rattle.wide_forms.specs.Laws.Utf32.{encode32}
use Rattle.wide_conversions.specs.Utf8Items.{utf8_items}
use Rattle.widestring_c.proofs.from_utf8.put_lossy_32.Goals as goal

pub returns-then-text-le-FEW : goal.returns-then-text-le-FEW
returns-then-text-le-FEW c =
    let e = c.put_lossy.ensures in
    let same = encode32 (lossy_by c.args.policy (utf8_items c.args.text.now)) in
    record { len = e.len ∙ ap length same; fits = e.fits; text = λ fits. sym (map-id _) ∙ e.units fits ∙ same; beyond = e.beyond }

pub returns-else-text-le-FEW : goal.returns-else-text-le-FEW
returns-else-text-le-FEW c =
    let e = c.put_lossy-else-text-le-FEW.ensures in
    let same = encode32 (lossy_by c.args.policy (utf8_items c.args.text.now)) in
    record { len = e.len ∙ ap length same; fits = e.fits; text = λ fits. sym (map-id _) ∙ e.units fits ∙ same; beyond = e.beyond }
