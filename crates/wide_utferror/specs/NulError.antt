-- What the error for units that are no C string holds and prints.
use Rattle.std.specs.Prelude.{ℕ, List, Option, None}
use Rattle.std.specs.declared.vec.Vec.{Vec}
use Rattle.wide_utferror.specs.Nul.{position_of, vec_of}
use Rattle.wide_error.specs.Texts.{missing_nul_text, contains_nul_text}
use Rattle.wide_utferror.specs.declared.nul.NulError.{NulError}
use Rattle.wide_utferror.specs.declared.nul.NulError.TheVariants.{MissingNulTerminator, ContainsNul}

module _ {C A : Type 0} where
  -- The vector to return, if the error holds one.
  abbrev pub handed_back : NulError C A → Option (Vec C A)
  handed_back (MissingNulTerminator e) = None
  handed_back (ContainsNul e) = vec_of e

  -- What `{}` prints: the text of the cause.
  abbrev pub nul_error_text : NulError C A → List ℕ
  nul_error_text (MissingNulTerminator e) = missing_nul_text
  nul_error_text (ContainsNul e) = contains_nul_text (position_of e)
