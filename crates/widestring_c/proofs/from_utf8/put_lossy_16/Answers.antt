use Rattle.std.proofs.Common.{◌∙◌, sym}
use Rattle.std.proofs.lemmas.List.{map-id}
use Rattle.widestring_c.proofs.from_utf8.put_lossy_16.Goals as goal

pub returns-then-text-le-FEW : goal.returns-then-text-le-FEW
returns-then-text-le-FEW c =
    let e = c.put_lossy.ensures in
    record { len = e.len; fits = e.fits; text = λ fits. sym (map-id _) ∙ e.units fits; beyond = e.beyond }

pub returns-else-text-le-FEW : goal.returns-else-text-le-FEW
returns-else-text-le-FEW c =
    let e = c.put_lossy-else-text-le-FEW.ensures in
    record { len = e.len; fits = e.fits; text = λ fits. sym (map-id _) ∙ e.units fits; beyond = e.beyond }
