-- What contracts say about units that are borrowed or owned.
use Rattle.std.specs.Prelude.{List}
use Rattle.wide_ustr.specs.View.{units_seen}
use Rattle.wide_ustring.specs.Units.{Units}
use Rattle.wide_ustring.specs.declared.cow.CowUStr.{CowUStr}
use Rattle.wide_ustring.specs.declared.cow.CowUStr.TheVariants.{Borrowed, Owned}

module _ {C A : Type 0} where
  -- The units, borrowed or owned.
  abbrev pub cow_units : CowUStr C A → List C
  cow_units (Borrowed view) = units_seen view
  cow_units (Owned string) = string.units

  -- `P` holds of the string, if the units are owned.
  abbrev pub IfOwned : CowUStr C A → (Units C → Type 0) → Type 0
  IfOwned (Borrowed view) P = Unit {0}
  IfOwned (Owned string) P = P string
