-- What contracts say about text that is borrowed or owned.
use Rattle.std.specs.Prelude.{◌≡◌, ◌≤◌, ◌↔◌, ℕ, List, length, map}
use Rattle.wide_unit.specs.declared.unit.Unit.{Ghosts}
use Rattle.wide_forms.specs.EncodingForm.{EncodingForm, encode}
use Rattle.wide_forms.specs.Items.{items, IsWellFormed}
use Rattle.wide_forms.specs.Lossy.{lossy_by}
use Rattle.wide_forms.specs.declared.policy.Policy.{Policy}
use Rattle.wide_forms.specs.declared.policy.Policy.TheVariants.{Each}
use Rattle.wide_ustring.specs.Units.{Units}
use Rattle.wide_utfstr.specs.View.{units_seen}
use Rattle.wide_utfstring.specs.declared.cow.CowUtfStr.{CowUtfStr}
use Rattle.wide_utfstring.specs.declared.cow.CowUtfStr.TheVariants.{Borrowed, Owned}

module _ {C A F : Type 0} {g : Ghosts C} where
  -- The units of the text.
  abbrev pub cow_units : CowUtfStr C A F g → List C
  cow_units (Borrowed view) = units_seen view
  cow_units (Owned string) = string.units

  -- The text is a view of units that something else owns.
  abbrev pub IsBorrowed : CowUtfStr C A F g → Type 0
  IsBorrowed (Borrowed view) = Unit {0}
  IsBorrowed (Owned string) = ⊥

  -- `P` holds of the string, if the text is owned.
  abbrev pub IfOwned : CowUtfStr C A F g → (Units C → Type 0) → Type 0
  IfOwned (Borrowed view) P = Unit {0}
  IfOwned (Owned string) P = P string

  -- The text is the lossy text of the units: each fault is replaced as the policy says, and making it lossy again
  -- changes nothing. It is borrowed exactly if the units are well formed, and then has these units. Otherwise it is a
  -- string with capacity for as many units as there are.
  pub record IsLossyBy (policy : Policy) (form : EncodingForm) (number : C → ℕ) (units : List C) (text : CowUtfStr C A F g) : Type 0 where
    pub encoded : map number (cow_units text) ≡ encode form (lossy_by policy (items form (map number units)))
    pub well_formed : IsWellFormed form (map number (cow_units text))
    pub once : encode form (lossy_by policy (items form (map number (cow_units text)))) ≡ map number (cow_units text)
    pub borrowed : IsBorrowed text ↔ IsWellFormed form (map number units)
    pub same : IsBorrowed text → cow_units text ≡ units
    pub capacity : IfOwned text (λ string. length units ≤ string.capacity)

  -- The text is the lossy text of the units, with U+FFFD for each fault.
  abbrev pub IsLossyOf : EncodingForm → (C → ℕ) → List C → CowUtfStr C A F g → Type 0
  IsLossyOf = IsLossyBy Each
