-- What the error of a constructor of owned C strings prints.
use Rattle.std.specs.Prelude.{ℕ, List}
use Rattle.wide_utferror.specs.Nul.{position_of}
use Rattle.wide_error.specs.Texts.{contains_nul_text, out_of_memory_text}
use Rattle.wide_utferror.specs.declared.nul.UCStringError.{UCStringError}
use Rattle.wide_utferror.specs.declared.nul.UCStringError.TheVariants.{ContainsNul, OutOfMemory}

-- What `{}` prints: the text of the cause.
abbrev pub ucstring_error_text : {C A : Type 0} → UCStringError C A → List ℕ
ucstring_error_text (ContainsNul e) = contains_nul_text (position_of e)
ucstring_error_text (OutOfMemory vec) = out_of_memory_text
