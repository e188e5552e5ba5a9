-- What contracts say about a C string that is borrowed or owned.
use Rattle.std.specs.Prelude.{List}
use Rattle.wide_unit.specs.declared.unit.Unit.{Ghosts}
use Rattle.wide_ustring.specs.Units.{Units}
use Rattle.wide_ucstr.specs.View.{units_with_nul}
use Rattle.wide_ucstring.specs.declared.cow.CowUCStr.{CowUCStr}
use Rattle.wide_ucstring.specs.declared.cow.CowUCStr.TheVariants.{Borrowed, Owned}

module _ {C A F : Type 0} {g : Ghosts C} where
  -- The units with the NUL, borrowed or owned.
  abbrev pub cow_units_with_nul : CowUCStr C A F g → List C
  cow_units_with_nul (Borrowed view) = units_with_nul view
  cow_units_with_nul (Owned string) = string.units

  -- `P` holds of the C string, if it is owned.
  abbrev pub IfOwned : CowUCStr C A F g → (Units C → Type 0) → Type 0
  IfOwned (Borrowed view) P = Unit {0}
  IfOwned (Owned string) P = P string
