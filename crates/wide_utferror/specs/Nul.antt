-- What the error for a NUL at an offset where none is allowed holds.
use Rattle.std.specs.Prelude.{ℕ, Option}
use Rattle.std.specs.declared.vec.Vec.{Vec}
use Rattle.wide_utferror.specs.declared.nul.ContainsNul.{ContainsNul}

module _ {C A : Type 0} where
  -- The offset of the first NUL.
  abbrev pub position_of : ContainsNul C A → ℕ
  position_of e = e.position

  -- The vector to return, if the error holds one.
  abbrev pub vec_of : ContainsNul C A → Option (Vec C A)
  vec_of e = e.vec
