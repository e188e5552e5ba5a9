use Rattle.std.proofs.Common.{◌∷◌, [], ap, ◌∙◌, lit≤, refl}
use Rattle.wide_forms.specs.EncodingForm.{Utf16, Utf32}
use Rattle.wide_forms.specs.Segmentation.{Fault}
use Rattle.wide_forms.specs.Laws.Forms.{IsFault-no_scalar, no_pair32}
use Rattle.wide_forms.specs.Laws.Items.{items-nil, items-code_units}
use Rattle.wide_forms.specs.Laws.Ends.{items-prefix_fault, items-prefix_low, items-prefix_high}
use Rattle.wide_unit.proofs.laws.worked_items.Goals as goal

pub returns-clause-pair : goal.returns-clause-pair
returns-clause-pair c = items-code_units Utf16 0x1_F600 refl

pub returns-clause-reversed : goal.returns-clause-reversed
returns-clause-reversed c =
    items-prefix_low Utf16 0xDE00 (0xD83D ∷ []) (lit≤ tt, lit≤ tt)
    ∙ ap (λ is. Fault 0xDE00 ∷ is) (items-prefix_high Utf16 0xD83D [] (lit≤ tt, lit≤ tt) (λ l back e. absurd cc) ∙ ap (λ is. Fault 0xD83D ∷ is) (items-nil Utf16))

pub returns-clause-empty : goal.returns-clause-empty
returns-clause-empty c = items-nil Utf16

pub returns-clause-utf32 : goal.returns-clause-utf32
returns-clause-utf32 c =
    items-prefix_fault Utf32 0xD800 _ (IsFault-no_scalar 0xD800 (λ h. cc)) (λ l back e. no_pair32 0xD800 l)
    ∙ ap (λ is. Fault 0xD800 ∷ is) (items-prefix_fault Utf32 0xDC00 _ (IsFault-no_scalar 0xDC00 (λ h. cc)) (λ l back e. no_pair32 0xDC00 l)
    ∙ ap (λ is. Fault 0xDC00 ∷ is) (items-prefix_fault Utf32 0x11_0000 _ (IsFault-no_scalar 0x11_0000 (λ h. cc)) (λ l back e. no_pair32 0x11_0000 l)
    ∙ ap (λ is. Fault 0x11_0000 ∷ is) (items-code_units Utf32 0x10_FFFF refl)))
