-- The units and the items of a view of units.
use Rattle.std.specs.Prelude.{ℕ, List, map}
use Rattle.wide_forms.specs.EncodingForm.{EncodingForm}
use Rattle.wide_forms.specs.Segmentation.{Item}
use Rattle.wide_forms.specs.Items.{items}
use Rattle.wide_ustr.specs.declared.view.UStr.{UStr}

-- The units that a view shows.
abbrev pub units_seen : {C : Type 0} → UStr C → List C
units_seen view = view.units.now

-- The items of a view: its characters, and the units that belong to none.
abbrev pub items_seen : {C : Type 0} → EncodingForm → (C → ℕ) → UStr C → List Item
items_seen form number view = items form (map number (units_seen view))

-- The numbers of a view's units.
abbrev pub numbers_seen : {C : Type 0} → (C → ℕ) → UStr C → List ℕ
numbers_seen number view = map number (units_seen view)
