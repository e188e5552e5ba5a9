-- What `{}` prints for each error: an index in decimal, without padding.
use Rattle.std.specs.Prelude.{ℕ, List, ◌++◌, codes}
use Rattle.std.specs.Fmt.{decimal}
use Rattle.wide_error.specs.Texts.{out_of_memory_text}
use Rattle.wide_wtf8.specs.declared.fault.FromWtf8Error.{FromWtf8Error}
use Rattle.wide_wtf8.specs.declared.fault.FromWtf8Error.TheVariants.{Fault, OutOfMemory}

-- The text of a first fault.
abbrev pub wtf8_fault_text : ℕ → List ℕ
wtf8_fault_text index = codes "ill-formed WTF-8 at byte " ++ decimal index

-- The text of an error of making a string.
abbrev pub from_wtf8_error_text : FromWtf8Error → List ℕ
from_wtf8_error_text (Fault fault) = wtf8_fault_text fault.index
from_wtf8_error_text OutOfMemory = out_of_memory_text
