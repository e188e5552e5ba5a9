use Rattle.std.proofs.Common.{◌≡◌, true, ap, sym, ◌∙◌}
use Rattle.std.specs.Prelude.{false, is_some}
use Rattle.wide_forms.specs.EncodingForm.{Utf16, encode}
use Rattle.wide_forms.specs.Items.{items}
use Rattle.wide_forms.specs.Lossy.{replacement}
use Rattle.wide_forms.specs.Laws.Policies.{lossy_after-all_replaced}
use Rattle.wide_repair.proofs.lossy.put_lossy.Goals as goal

pub returns-then-is_some-2-clause-text : goal.returns-then-is_some-2-clause-text
returns-then-is_some-2-clause-text c =
    let policy = c.args.policy in
    let first : is_some (replacement policy false) ≡ true = sym (c.is_some.ensures ∙ ap is_some c.replacement.ensures) ∙ c.if-is_some.true in
    let later : is_some (replacement policy true) ≡ true = sym (c.is_some-then-is_some.ensures ∙ ap is_some c.replacement-then-is_some.ensures) ∙ c.if-is_some-2.true in
    c.repair_16.ensures.units ∙ ap (encode Utf16) (sym (lossy_after-all_replaced policy first later c.args.after_fault (items Utf16 c.args.units.now)))
