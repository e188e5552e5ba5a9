-- The encoding schemes of the Standard (its D95 to D101) and WTF-8: what layout the bytes of a text have, and which of
-- them are a BOM.
use Rattle.std.specs.Prelude.{ℕ, Bool, true, false, List, [], ◌∷◌, drop, Option, Some, None, is_some, unwrap_or, nat_eq, if◌then◌else◌}
use Rattle.std.specs.List.{starts_with}
use Rattle.wide_forms.specs.Segmentation.{Item}
use Rattle.wide_bytes.specs.Bytes.{bom_of}
use Rattle.wide_bytes.specs.declared.order.BoM.{BoM}
use Rattle.wide_bytes.specs.declared.order.BoM.TheVariants.{Little, Big}
use Rattle.wide_schemes.specs.Layouts.{items_in}
use Rattle.wide_schemes.specs.declared.layout.Layout.{Layout}
use Rattle.wide_schemes.specs.declared.layout.Layout.TheVariants.{Utf8 as Utf8Layout, Wtf8 as Wtf8Layout, Utf16 as Utf16Layout, Utf32 as Utf32Layout}
use Rattle.wide_schemes.specs.declared.scheme.Scheme.{Scheme}
use Rattle.wide_schemes.specs.declared.scheme.Scheme.TheVariants.{Utf8, Wtf8, Utf16Le, Utf16Be, Utf16, Utf32Le, Utf32Be, Utf32}

-- The order that the BOM of UTF-32 at the beginning indicates (section 23.8, U+FEFF in either order).
abbrev pub bom32_of : List ℕ → Option BoM
bom32_of bytes =
    if starts_with nat_eq bytes (0xff ∷ 0xfe ∷ 0 ∷ 0 ∷ []) then Some Little
    else if starts_with nat_eq bytes (0 ∷ 0 ∷ 0xfe ∷ 0xff ∷ []) then Some Big
    else None

-- The layout of the bytes of a text. Without a BOM the order is little-endian, as in the Rust crate for files (D98 and
-- D101 of the Standard alone would mean big-endian).
abbrev pub layout_from : Scheme → List ℕ → Layout
layout_from Utf8 bytes = Utf8Layout
layout_from Wtf8 bytes = Wtf8Layout
layout_from Utf16Le bytes = Utf16Layout Little
layout_from Utf16Be bytes = Utf16Layout Big
layout_from Utf16 bytes = Utf16Layout (unwrap_or (bom_of bytes) Little)
layout_from Utf32Le bytes = Utf32Layout Little
layout_from Utf32Be bytes = Utf32Layout Big
layout_from Utf32 bytes = Utf32Layout (unwrap_or (bom32_of bytes) Little)

-- The length of the BOM in bytes.
abbrev pub bom_len : Scheme → List ℕ → ℕ
bom_len Utf8 bytes = 0
bom_len Wtf8 bytes = 0
bom_len Utf16Le bytes = 0
bom_len Utf16Be bytes = 0
bom_len Utf16 bytes = if is_some (bom_of bytes) then 2 else 0
bom_len Utf32Le bytes = 0
bom_len Utf32Be bytes = 0
bom_len Utf32 bytes = if is_some (bom32_of bytes) then 4 else 0

-- How many bytes at the beginning determine the layout.
abbrev pub start_len : Scheme → ℕ
start_len Utf8 = 0
start_len Wtf8 = 0
start_len Utf16Le = 0
start_len Utf16Be = 0
start_len Utf16 = 2
start_len Utf32Le = 0
start_len Utf32Be = 0
start_len Utf32 = 4

-- The layout in which a text is written.
abbrev pub layout_to : Scheme → Layout
layout_to scheme = layout_from scheme []

-- The layouts are WTF-8 and one that can hold surrogates which belong to no pair.
abbrev pub both_hold_halves : Layout → Layout → Bool
both_hold_halves Utf8Layout to = false
both_hold_halves Wtf8Layout Utf8Layout = false
both_hold_halves Wtf8Layout Wtf8Layout = true
both_hold_halves Wtf8Layout (Utf16Layout order) = true
both_hold_halves Wtf8Layout (Utf32Layout order) = false
both_hold_halves (Utf16Layout order) Utf8Layout = false
both_hold_halves (Utf16Layout order) Wtf8Layout = true
both_hold_halves (Utf16Layout order) (Utf16Layout order') = false
both_hold_halves (Utf16Layout order) (Utf32Layout order') = false
both_hold_halves (Utf32Layout order) to = false

-- A conversion keeps surrogates that belong to no pair.
abbrev pub keeps_halves : Scheme → Scheme → Bool
keeps_halves from to = both_hold_halves (layout_to from) (layout_to to)

-- The characters and faults of the bytes of a text, after a BOM.
abbrev pub items_from : Scheme → Bool → List ℕ → List Item
items_from scheme keeps bytes = items_in (layout_from scheme bytes) keeps false (drop (bom_len scheme bytes) bytes)
