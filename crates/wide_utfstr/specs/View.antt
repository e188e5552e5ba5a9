-- The units and the characters of a well-formed view.
use Rattle.std.specs.Prelude.{ℕ, List, map}
use Rattle.wide_forms.specs.EncodingForm.{EncodingForm}
use Rattle.wide_forms.specs.Segmentation.{Item}
use Rattle.wide_forms.specs.Items.{items, chars}
use Rattle.wide_unit.specs.declared.unit.Unit.{Ghosts}
use Rattle.wide_utfstr.specs.declared.view.UtfStr.{UtfStr}

-- The units that a view of well-formed text shows.
abbrev pub units_seen : {C : Type 0} {g : Ghosts C} → UtfStr C g → List C
units_seen view = view.units.now

-- The characters of a view of well-formed text.
abbrev pub text_seen : {C : Type 0} {g : Ghosts C} → UtfStr C g → List ℕ
text_seen {g = g} view = chars g.form (map g.number view.units.now)

-- The items of a view of well-formed text, which are its characters alone.
abbrev pub items_seen : {C : Type 0} {g : Ghosts C} → EncodingForm → (C → ℕ) → UtfStr C g → List Item
items_seen form number view = items form (map number (units_seen view))

-- The numbers of the units of a view of well-formed text.
abbrev pub numbers_seen : {C : Type 0} {g : Ghosts C} → (C → ℕ) → UtfStr C g → List ℕ
numbers_seen number view = map number (units_seen view)
