-- Which scheme a BOM indicates.
use Rattle.std.specs.Prelude.{ℕ, List, [], ◌∷◌, Option, Some, None, if◌then◌else◌, is_some, length, nat_eq}
use Rattle.std.specs.List.{starts_with}
use Rattle.wide_bytes.specs.Bytes.{bom_of}
use Rattle.wide_schemes.specs.Schemes.{bom32_of}
use Rattle.wide_schemes.specs.declared.scheme.Scheme.{Scheme}
use Rattle.wide_schemes.specs.declared.scheme.Scheme.TheVariants.{Utf8, Wtf8, Utf16Le, Utf16Be, Utf16, Utf32Le, Utf32Be, Utf32}

-- The scheme that a BOM at the beginning indicates (section 23.8), and how many bytes of it the scheme would take for a
-- character. `FF FE 00 00` is the BOM of UTF-32, and not that of UTF-16 before a NUL.
abbrev pub scheme_by_bom : List ℕ → Option (Scheme × ℕ)
scheme_by_bom bytes =
    if starts_with nat_eq bytes (0xef ∷ 0xbb ∷ 0xbf ∷ []) then Some (Utf8, 3)
    else if is_some (bom32_of bytes) then Some (Utf32, 0)
    else if is_some (bom_of bytes) then Some (Utf16, 0)
    else None

-- U+FEFF in a scheme, with which a text may begin. The order of UTF-16 and of UTF-32 is read from theirs, which is part of
-- the text until then.
abbrev pub bom_in : Scheme → List ℕ
bom_in Utf8 = 0xef ∷ 0xbb ∷ 0xbf ∷ []
bom_in Wtf8 = 0xef ∷ 0xbb ∷ 0xbf ∷ []
bom_in Utf16Le = 0xff ∷ 0xfe ∷ []
bom_in Utf16Be = 0xfe ∷ 0xff ∷ []
bom_in Utf16 = []
bom_in Utf32Le = 0xff ∷ 0xfe ∷ 0 ∷ 0 ∷ []
bom_in Utf32Be = 0 ∷ 0 ∷ 0xfe ∷ 0xff ∷ []
bom_in Utf32 = []

-- The length of the BOM that a text in a scheme begins with, or 0.
abbrev pub bom_len : Scheme → List ℕ → ℕ
bom_len scheme bytes = if starts_with nat_eq bytes (bom_in scheme) then length (bom_in scheme) else 0
