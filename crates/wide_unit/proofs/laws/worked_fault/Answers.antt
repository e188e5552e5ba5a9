use Rattle.std.proofs.Common.{◌∷◌, [], ap, ◌∙◌, lit≤, refl}
use Rattle.wide_forms.specs.EncodingForm.{Utf16}
use Rattle.wide_forms.specs.Segmentation.{Char, Fault}
use Rattle.wide_forms.specs.Laws.Items.{items-nil}
use Rattle.wide_forms.specs.Laws.Ends.{items-prefix_char, items-prefix_high}
use Rattle.wide_unit.proofs.Faults.{IsFirstFault-of}
use Rattle.wide_unit.proofs.laws.worked_fault.Goals as goal

pub returns : goal.returns
returns c =
    IsFirstFault-of Utf16 _ (0x1_F600 ∷ []) [] 2 1 0xD800
    (
    items-prefix_char Utf16 0x1_F600 (0xD800 ∷ []) refl
    ∙ ap (λ is. Char 0x1_F600 ∷ is) (items-prefix_high Utf16 0xD800 [] (lit≤ tt, lit≤ tt) (λ l back e. absurd cc) ∙ ap (λ is. Fault 0xD800 ∷ is) (items-nil Utf16))
    )
    refl
    refl
