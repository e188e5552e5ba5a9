use Rattle.std.proofs.Common.{◌≡◌, ◌∷◌, ap, ◌∙◌, lit≤, refl, arith}
use Rattle.wide_forms.specs.EncodingForm.{Utf16}
use Rattle.wide_forms.specs.Segmentation.{Char, Fault}
use Rattle.wide_forms.specs.Laws.Items.{items-code_units}
use Rattle.wide_forms.specs.Laws.Ends.{items-prefix_char, items-prefix_high}
use Rattle.wide_search.proofs.laws.worked_line.Goals as goal

pub returns : goal.returns
returns c =
    items-prefix_char Utf16 0x20 _ refl
    ∙ ap (λ is. Char 0x20 ∷ is) (items-prefix_high Utf16 0xD800 _ (lit≤ tt, lit≤ tt) (λ l back e low. let at : 0x3000 ≡ l = cc in absurd (omega (arith, low.0, at)))
    ∙ ap (λ is. Fault 0xD800 ∷ is) (items-prefix_char Utf16 0x3000 _ refl
    ∙ ap (λ is. Char 0x3000 ∷ is) (items-prefix_char Utf16 0x61 _ refl ∙ ap (λ is. Char 0x61 ∷ is) (items-code_units Utf16 0x20 refl))))
