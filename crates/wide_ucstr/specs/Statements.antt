-- The laws of C strings, each of them the contract of a function of the crate.
use Rattle.std.specs.Prelude.{◌≡◌, ℕ, List, [], ◌∷◌, ◌++◌}
use Rattle.std.specs.Ordering.{nat_cmp}
use Rattle.std.specs.Cmp.Lexicographic.{slice_cmp}
use Rattle.wide_unit.specs.Nul.{HasNoNul}
use Rattle.wide_ucstr.specs.CString.{IsCString, contents}

-- A C string consists of contents without a NUL, and one NUL.
abbrev pub CStringIsContents : Type 0
CStringIsContents = (us : List ℕ) → IsCString us → HasNoNul (contents us) × (us ≡ contents us ++ 0 ∷ [])

-- Units without a NUL, followed by a NUL, are a C string with these contents.
abbrev pub ContentsMakeCString : Type 0
ContentsMakeCString = (us : List ℕ) → HasNoNul us → IsCString (us ++ 0 ∷ []) × (contents (us ++ 0 ∷ []) ≡ us)

-- The order of C strings with their NULs, unit by unit, is that of their contents.
abbrev pub OrderIsOfContents : Type 0
OrderIsOfContents = (us vs : List ℕ) → HasNoNul us → HasNoNul vs → slice_cmp nat_cmp (us ++ 0 ∷ []) (vs ++ 0 ∷ []) ≡ slice_cmp nat_cmp us vs
