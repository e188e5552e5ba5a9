-- What an error of ill-formed units holds.
use Rattle.std.specs.Prelude.{ℕ, Option}
use Rattle.std.specs.declared.vec.Vec.{Vec}
use Rattle.wide_utferror.specs.declared.error.UtfError.{UtfError}

module _ {C A : Type 0} where
  -- The index of the first fault: the number of units before it.
  abbrev pub index_of : UtfError C A → ℕ
  index_of e = e.index

  -- The item number of the first fault: the number of characters before it.
  abbrev pub item_of : UtfError C A → ℕ
  item_of e = e.item

  -- The unit of the first fault.
  abbrev pub unit_of : UtfError C A → C
  unit_of e = e.unit

  -- The vector to return, if the error holds one.
  abbrev pub vec_of : UtfError C A → Option (Vec C A)
  vec_of e = e.vec
