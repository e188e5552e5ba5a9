-- The headers.
use Rattle.std.specs.Prelude.{◌≡◌, ℕ, List, codes, length, take}
use Rattle.wide_registry.specs.Lines.{without_blanks}
use Rattle.wide_registry.specs.declared.entry.Header.{Header}
use Rattle.wide_registry.specs.declared.entry.Header.TheVariants.{Regedit4, Version5}

-- The text of a header.
abbrev pub text_of : Header → List ℕ
text_of Regedit4 = codes "REGEDIT4"
text_of Version5 = codes "Windows Registry Editor Version 5.00"

-- A line begins with a header, but for blanks.
abbrev pub IsHeader : List ℕ → Header → Type 0
IsHeader line header = take (length (text_of header)) (without_blanks line) ≡ text_of header
