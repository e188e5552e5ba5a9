-- An owned string after a write to its units.
use Rattle.std.specs.Prelude.{List}
use Rattle.std.specs.List.{refill}
use Rattle.std.specs.Borrow.{Lends, Fml, RattleType, MutBor, Array}
use Rattle.std.specs.declared.alloc.Allocator.{Ghosts}
use Rattle.wide_ustring.specs.Units.{Units, ustring_len}
use Rattle.wide_ustring.specs.contracts.ustring.UString.{the_row}

-- The string with as many units as before, with the values of a list.
abbrev pub with_units : {C : Type 0} → Units C → List C → Units C
with_units s us = record s { units = refill (ustring_len s) s.units us }

module _ (C A : RattleType) (alloc : Ghosts A.Denot) (s : MutBor (Units C.Denot)) where
  -- When the borrow ends, the string has the units that the slice had last.
  abbrev pub lends_units : MutBor (List C.Denot) → Fml
  lends_units r = Lends (the_row C A alloc) (Array C 0) s r (with_units s.now)
