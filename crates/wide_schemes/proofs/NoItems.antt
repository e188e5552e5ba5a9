-- No bytes have no items.
use Rattle.std.proofs.Common.{◌≡◌, [], Bool, true, false, map, ap, ◌∙◌, arith}
use Rattle.wide_forms.specs.EncodingForm.{Utf16 as Utf16Form, Utf32 as Utf32Form}
use Rattle.wide_forms.specs.Items.{items}
use Rattle.wide_forms.specs.Segmentation.{Char}
use Rattle.wide_forms.specs.Laws.Items.{items-nil}
use Rattle.wide_unit.specs.CodePoints.{code_of, code_points}
use Rattle.wide_bytes.proofs.Pairs.{units_in-short}
use Rattle.wide_conversions.specs.Utf8Items.{utf8_items, utf8_items-divide, utf8_items-unique}
use Rattle.wide_conversions.specs.Utf8Items as items8
use Rattle.wide_schemes.specs.Layouts.{items_in, scalar_item}
use Rattle.wide_schemes.specs.Wtf8Items.{none, wtf8_items-unique}
use Rattle.wide_schemes.specs.declared.layout.Layout.{Layout}
use Rattle.wide_schemes.specs.declared.layout.Layout.TheVariants.{Utf8, Wtf8, Utf16, Utf32}
use Rattle.wide_schemes.proofs.Units32.{units32_in-short}

pub items-none : (layout : Layout) (keeps h : Bool) → items_in layout keeps h [] ≡ []
items-none Utf8 keeps h = utf8_items-unique [] (utf8_items []) [] (utf8_items-divide []) items8.none
items-none Wtf8 true h = wtf8_items-unique h [] [] (none h)
items-none Wtf8 false h = ap (map scalar_item) (wtf8_items-unique false [] [] (none false))
items-none (Utf16 order) true h = ap (λ us. map Char (code_points Utf16Form us)) (units_in-short order [] (omega arith)) ∙ ap (λ is. map Char (map code_of is)) (items-nil Utf16Form)
items-none (Utf16 order) false h = ap (items Utf16Form) (units_in-short order [] (omega arith)) ∙ items-nil Utf16Form
items-none (Utf32 order) keeps h = ap (items Utf32Form) (units32_in-short order [] (omega arith)) ∙ items-nil Utf32Form
