use Rattle.std.proofs.Common.{◌≡◌, ◌∙◌, ap, length, map, sym, ℕ}
use Rattle.std.proofs.lemmas.List.{map-id}
use Rattle.wide_forms.specs.EncodingForm.{Utf16, Utf32, encode}
use Rattle.wide_forms.specs.Items.{items}
use Rattle.wide_forms.specs.Lossy.{lossy_by}
use Rattle.wide_forms.specs.Laws.Utf32.{encode32}
use Rattle.widestring_c.proofs.between_lossy.put_lossy_scalars.Goals as goal

pub returns-then-units-le-FEW : goal.returns-then-units-le-FEW
returns-then-units-le-FEW c =
    let e = c.put_lossy_between.ensures in
    let same : encode Utf32 (lossy_by c.args.policy (items Utf16 (map (λ (u : ℕ). u) c.args.units.now))) ≡ lossy_by c.args.policy (items Utf16 c.args.units.now) = encode32 _ ∙ ap (λ us. lossy_by c.args.policy (items Utf16 us)) (map-id c.args.units.now) in
    record { len = e.len ∙ ap length same; fits = e.fits; text = λ fits. sym (map-id _) ∙ e.units fits ∙ same; beyond = e.beyond }

pub returns-else-units-le-FEW : goal.returns-else-units-le-FEW
returns-else-units-le-FEW c =
    let e = c.put_lossy_between-else-units-le-FEW.ensures in
    let same : encode Utf32 (lossy_by c.args.policy (items Utf16 (map (λ (u : ℕ). u) c.args.units.now))) ≡ lossy_by c.args.policy (items Utf16 c.args.units.now) = encode32 _ ∙ ap (λ us. lossy_by c.args.policy (items Utf16 us)) (map-id c.args.units.now) in
    record { len = e.len ∙ ap length same; fits = e.fits; text = λ fits. sym (map-id _) ∙ e.units fits ∙ same; beyond = e.beyond }
