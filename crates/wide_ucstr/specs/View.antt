-- The units of a view of a C string.
use Rattle.std.specs.Prelude.{List}
use Rattle.wide_unit.specs.declared.unit.Unit.{Ghosts}
use Rattle.wide_ucstr.specs.CString.{contents}
use Rattle.wide_ucstr.specs.declared.view.UCStr.{UCStr}

module _ {C : Type 0} {g : Ghosts C} where
  -- The units of a C string, of which the last is the NUL.
  abbrev pub units_with_nul : UCStr C g → List C
  units_with_nul view = view.units.now

  -- The units of a C string before the NUL.
  abbrev pub contents_seen : UCStr C g → List C
  contents_seen view = contents (units_with_nul view)
