-- Why units are no C string.
use Rattle.std.specs.Prelude.{◌≡◌, ℕ, ◌+◌, ◌<◌, List, length, None}
use Rattle.wide_unit.specs.Nul.{IsFirstNul}
use Rattle.wide_utferror.specs.Nul.{position_of, vec_of}
use Rattle.wide_utferror.specs.declared.nul.NulError.{NulError}
use Rattle.wide_utferror.specs.declared.nul.NulError.TheVariants.{MissingNulTerminator, ContainsNul}
use Rattle.wide_ucstr.specs.CString.{EndsInNul}

-- The units do not end in a NUL, or they do, and it is not the first. The error holds no vector.
abbrev pub IsNulFault : {C A : Type 0} → List ℕ → NulError C A → Type 0
IsNulFault us (MissingNulTerminator e) = ¬ (EndsInNul us)
IsNulFault us (ContainsNul e) = EndsInNul us × IsFirstNul us (position_of e) × (position_of e + 1 < length us) × (vec_of e ≡ None)
