-- The case mappings of characters.
use Rattle.std.specs.Prelude.{ℕ, List}
use Rattle.std.specs.Char.Unicode.ToLowercase.{to_lowercase}
use Rattle.std.specs.Char.Unicode.ToUppercase.{to_uppercase}
use Rattle.wide_utfstring.specs.declared.case.Case.{Case}
use Rattle.wide_utfstring.specs.declared.case.Case.TheVariants.{Lower, Upper}

-- The characters that a character becomes: the full mapping of the Unicode Standard, without context or language.
abbrev pub mapping : Case → ℕ → List ℕ
mapping Lower c = to_lowercase c
mapping Upper c = to_uppercase c
