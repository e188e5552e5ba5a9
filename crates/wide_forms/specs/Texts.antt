-- What is printed for a list of code units.
use Rattle.std.specs.Prelude.{ℕ, ◌==◌, nat_lt, Bool, true, not, if◌then◌else◌, List, [], ◌∷◌, ◌++◌, map, Option, Some, None, codes}
use Rattle.std.specs.Char.Escape.{backslash, escape_default}
use Rattle.std.specs.Fmt.{digits}
use Rattle.std.specs.List.{filter, flat_map, list_all}
use Rattle.wide_forms.specs.EncodingForm.{EncodingForm}
use Rattle.wide_forms.specs.Segmentation.{Item, Char, Fault}
use Rattle.wide_forms.specs.Items.{items}
use Rattle.wide_forms.specs.Lossy.{lossy}
use Rattle.wide_forms.specs.Utf8.{utf8}

-- The UTF-8 of the lossy text.
abbrev pub display_text : EncodingForm → List ℕ → List ℕ
display_text form us = utf8 (lossy (items form us))

-- Whether a character is not U+FFFD. `display_skipping` prints only the characters that are not.
abbrev pub is_kept : ℕ → Bool
is_kept c = not (c == 0xFFFD)

-- The UTF-8 of the lossy text without any U+FFFD.
abbrev pub skipping_text : EncodingForm → List ℕ → List ℕ
skipping_text form us = utf8 (filter is_kept (lossy (items form us)))

-- How `{:?}` writes an ASCII character between quotes: NUL is `\0`.
abbrev pub escape_debug : ℕ → List ℕ
escape_debug c = if c == 0 then backslash ∷ 48 ∷ [] else escape_default c

-- The escape of a character, or the number of a fault as `\<H>`, in upper-case hexadecimal without leading zeros.
abbrev pub debug_item : Item → List ℕ
debug_item (Char c) = utf8 (escape_debug c)
debug_item (Fault u) = codes "\\<" ++ (digits 16 true u ++ codes ">")

-- The items, one after the other, between quotes.
abbrev pub quoted : List Item → List ℕ
quoted is = 34 ∷ (flat_map debug_item is ++ 34 ∷ [])

-- What `{:?}` writes for units whose characters are all ASCII.
abbrev pub debug_text : EncodingForm → List ℕ → List ℕ
debug_text form us = quoted (items form us)

-- The item is an ASCII character or a fault.
abbrev pub is_plain : Item → Bool
is_plain (Char c) = nat_lt c 0x80
is_plain (Fault u) = true

-- What `{:?}` writes for items whose characters are all ASCII. For other characters it writes the character or its
-- code, by std's tables of printable characters, and nothing is specified.
abbrev pub quoted_output : List Item → Option (List ℕ)
quoted_output is = if list_all is_plain is then Some (quoted is) else None

-- What `{:?}` writes for units, if all their characters are ASCII.
abbrev pub debug_output : EncodingForm → List ℕ → Option (List ℕ)
debug_output form us = quoted_output (items form us)

-- What `{:?}` writes for the lossy characters of units, if all are ASCII.
abbrev pub lossy_debug_output : EncodingForm → List ℕ → Option (List ℕ)
lossy_debug_output form us = quoted_output (map Char (lossy (items form us)))
