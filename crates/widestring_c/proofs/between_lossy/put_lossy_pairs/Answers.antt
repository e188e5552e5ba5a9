use Rattle.std.proofs.Common.{◌≡◌, ◌∙◌, ap, length, map, sym, ℕ}
use Rattle.std.proofs.lemmas.List.{map-id}
use Rattle.wide_forms.specs.EncodingForm.{Utf16, Utf32, encode}
use Rattle.wide_forms.specs.Items.{items}
use Rattle.wide_forms.specs.Lossy.{lossy_by}
use Rattle.widestring_c.proofs.between_lossy.put_lossy_pairs.Goals as goal

pub returns-then-scalars-le-FEW : goal.returns-then-scalars-le-FEW
returns-then-scalars-le-FEW c =
    let e = c.put_lossy_between.ensures in
    let same : encode Utf16 (lossy_by c.args.policy (items Utf32 (map (λ (u : ℕ). u) c.args.scalars.now))) ≡ encode Utf16 (lossy_by c.args.policy (items Utf32 c.args.scalars.now)) = ap (λ us. encode Utf16 (lossy_by c.args.policy (items Utf32 us))) (map-id c.args.scalars.now) in
    record { len = e.len ∙ ap length same; fits = e.fits; text = λ fits. sym (map-id _) ∙ e.units fits ∙ same; beyond = e.beyond }

pub returns-else-scalars-le-FEW : goal.returns-else-scalars-le-FEW
returns-else-scalars-le-FEW c =
    let e = c.put_lossy_between-else-scalars-le-FEW.ensures in
    let same : encode Utf16 (lossy_by c.args.policy (items Utf32 (map (λ (u : ℕ). u) c.args.scalars.now))) ≡ encode Utf16 (lossy_by c.args.policy (items Utf32 c.args.scalars.now)) = ap (λ us. encode Utf16 (lossy_by c.args.policy (items Utf32 us))) (map-id c.args.scalars.now) in
    record { len = e.len ∙ ap length same; fits = e.fits; text = λ fits. sym (map-id _) ∙ e.units fits ∙ same; beyond = e.beyond }
