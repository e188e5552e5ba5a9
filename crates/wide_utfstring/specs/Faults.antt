-- The errors of constructors that check a vector's units, or a copy of units.
use Rattle.std.specs.Prelude.{◌≡◌, ℕ, List, map, Some}
use Rattle.std.specs.declared.vec.Vec.{Vec}
use Rattle.wide_forms.specs.EncodingForm.{EncodingForm}
use Rattle.wide_forms.specs.Items.{IsFirstFault}
use Rattle.wide_utferror.specs.UtfError.{index_of, item_of, unit_of, vec_of}
use Rattle.wide_utferror.specs.declared.error.UtfError.{UtfError}

-- The error reports the first fault of the units, and holds the vector.
abbrev pub IsFaultOf : {C A : Type 0} → EncodingForm → (C → ℕ) → Vec C A → UtfError C A → Type 0
IsFaultOf form number units e = IsFirstFault form (map number units.items) (index_of e) (item_of e) (number (unit_of e)) × (vec_of e ≡ Some units)

-- The error reports the first fault of the copied units, and holds the vector of the copy.
abbrev pub IsFaultOfCopy : {A : Type 0} → EncodingForm → List ℕ → UtfError ℕ A → Type 0
IsFaultOfCopy {A} form units e = IsFirstFault form units (index_of e) (item_of e) (unit_of e) × (vec : Vec ℕ A) × (vec.items ≡ units) × (vec_of e ≡ Some vec)
