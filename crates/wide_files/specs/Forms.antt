-- The names of encoding schemes.
use Rattle.std.specs.Prelude.{◌≡◌, ℕ, List, map, codes}
use Rattle.std.specs.Char.{to_ascii_lowercase}
use Rattle.wide_files.specs.Boms.{bom_len}
use Rattle.wide_files.specs.declared.form.Form.{Form}
use Rattle.wide_files.specs.declared.form.Form.TheVariants.{Unicode, Windows}
use Rattle.wide_schemes.specs.declared.scheme.Scheme.{Scheme}
use Rattle.wide_schemes.specs.declared.scheme.Scheme.TheVariants.{Utf8, Wtf8, Utf16Le, Utf16Be, Utf16, Utf32Le, Utf32Be, Utf32}

-- The name of a scheme.
abbrev pub name_of : Scheme → List ℕ
name_of Utf8 = codes "UTF-8"
name_of Utf16 = codes "UTF-16"
name_of Utf16Le = codes "UTF-16LE"
name_of Utf16Be = codes "UTF-16BE"
name_of Utf32 = codes "UTF-32"
name_of Utf32Le = codes "UTF-32LE"
name_of Utf32Be = codes "UTF-32BE"
name_of Wtf8 = codes "WTF-8"

-- Both are the same but for the case of ASCII letters.
abbrev pub IsSameInAnyCase : List ℕ → List ℕ → Type 0
IsSameInAnyCase word other = map to_ascii_lowercase word ≡ map to_ascii_lowercase other

-- The length of the BOM that a text in a form begins with. A code page has none.
abbrev pub form_bom_len : Form → List ℕ → ℕ
form_bom_len (Unicode scheme) bytes = bom_len scheme bytes
form_bom_len (Windows page) bytes = 0
