use Rattle.std.proofs.Common.{◌≡◌, ◌∷◌, [], ap, ◌∙◌, lit≤, refl}
use Rattle.wide_forms.specs.EncodingForm.{Utf16, Utf32}
use Rattle.wide_forms.specs.Segmentation.{Char, Fault}
use Rattle.wide_forms.specs.Lossy.{lossy}
use Rattle.wide_forms.specs.Laws.Forms.{high-no_low}
use Rattle.wide_forms.specs.Laws.Items.{items-nil, items-code_units}
use Rattle.wide_forms.specs.Laws.Ends.{items-prefix_char, items-prefix_high}
use Rattle.wide_forms.specs.Laws.Utf32.{items32-fault}
use Rattle.wide_unit.proofs.laws.worked_lossy.Goals as goal

pub returns-clause-utf16 : goal.returns-clause-utf16
returns-clause-utf16 c =
    ap lossy (items-prefix_char Utf16 0x1_F600 (0xD800 ∷ 0xD801 ∷ []) refl
    ∙ ap (λ is. Char 0x1_F600 ∷ is) (items-prefix_high Utf16 0xD800 (0xD801 ∷ []) (lit≤ tt, lit≤ tt) (λ l back e low. let at : 0xD801 ≡ l = cc in high-no_low Utf16 0xD801 (lit≤ tt, lit≤ tt) (rw at low))
    ∙ ap (λ is. Fault 0xD800 ∷ is) (items-prefix_high Utf16 0xD801 [] (lit≤ tt, lit≤ tt) (λ l back e. absurd cc) ∙ ap (λ is. Fault 0xD801 ∷ is) (items-nil Utf16))))

pub returns-clause-utf32 : goal.returns-clause-utf32
returns-clause-utf32 c =
    ap lossy (items32-fault 0xD800 _ (λ h. cc) ∙ ap (λ is. Fault 0xD800 ∷ is) (items32-fault 0xDC00 _ (λ h. cc) ∙ ap (λ is. Fault 0xDC00 ∷ is) (items-code_units Utf32 0x41 refl)))
