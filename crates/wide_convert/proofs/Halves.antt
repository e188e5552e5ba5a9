-- Surrogates that belong to no pair, in UTF-16 and in WTF-8.
use Rattle.std.proofs.Common.{◌%◌, ◌≡◌, ℕ, List, [], ◌++◌, false, true, drop, length, map, refl, sym, ap, ◌∙◌, arith}
use Rattle.std.specs.Prelude.{None}
use Rattle.std.proofs.lemmas.List.{append-nil}
use Rattle.wide_forms.specs.EncodingForm.{Utf16 as Utf16Form}
use Rattle.wide_forms.specs.Items.{first_fault_unit, leading_characters}
use Rattle.wide_forms.specs.Segmentation.{Char}
use Rattle.wide_unit.specs.CodePoints.{code_points}
use Rattle.wide_bytes.specs.Bytes.{bytes_in, units_in}
use Rattle.wide_bytes.specs.declared.order.BoM.{BoM}
use Rattle.wide_schemes.specs.ItemLaws.{items-units}
use Rattle.wide_schemes.specs.Layouts.{encoded, items_in, unit_len}
use Rattle.wide_schemes.specs.Schemes.{bom_len, keeps_halves, layout_from, layout_to}
use Rattle.wide_schemes.specs.Wtf8.{wtf8}
use Rattle.wide_schemes.specs.Wtf8Items.{ends_in_high, none, wtf8_items, wtf8_items-unique}
use Rattle.wide_schemes.specs.Wtf8Laws.{encode-code_points}
use Rattle.wide_schemes.specs.declared.layout.Layout.TheVariants.{Utf16, Wtf8}
use Rattle.wide_schemes.specs.declared.scheme.Scheme.{Scheme}
use Rattle.wide_schemes.specs.declared.scheme.Scheme.TheVariants.{Utf8 as Utf8Scheme, Wtf8 as Wtf8Scheme, Utf16 as Utf16Scheme, Utf16Le, Utf16Be, Utf32 as Utf32Scheme, Utf32Le, Utf32Be}
use Rattle.wide_convert.specs.Converted.{converted, ending_at, ending_of_part, items_read}
use Rattle.wide_convert.specs.Statements.{UnitsBecomeWtf8, Wtf8BecomesUnits}
use Rattle.wide_convert.proofs.Ends.{fault-past, leading-chars}

leading-all : (cs : List ℕ) → leading_characters (map Char cs) ≡ cs
leading-all cs = ap leading_characters (sym (append-nil (map Char cs))) ∙ leading-chars cs [] ∙ append-nil cs

fault-none : (cs : List ℕ) → first_fault_unit (map Char cs) ≡ None
fault-none cs = ap first_fault_unit (sym (append-nil (map Char cs))) ∙ fault-past cs []

-- A text of characters alone becomes their text.
text-of-chars : (from to : Scheme) (bytes cs : List ℕ) → items_read from to bytes ≡ map Char cs → converted from to None false bytes ≡ record { text = encoded (layout_to to) cs; ending = ending_of_part (length bytes % unit_len (layout_from from bytes)) }
text-of-chars from to bytes cs is =
    ap (λ js. record { text = encoded (layout_to to) (leading_characters js); ending = ending_at from (first_fault_unit js) js bytes }) is
    ∙ ap (λ ds. record { text = encoded (layout_to to) ds; ending = ending_at from (first_fault_unit (map Char cs)) (map Char cs) bytes }) (leading-all cs)
    ∙ ap (λ u. record { text = encoded (layout_to to) cs; ending = ending_at from u (map Char cs) bytes }) (fault-none cs)

-- A scheme whose bytes are UTF-16 is one of UTF-16.
keeps-units : (from : Scheme) (order : BoM) (bytes : List ℕ) → layout_from from bytes ≡ Utf16 order → keeps_halves from Wtf8Scheme ≡ true
keeps-units Utf8Scheme order bytes e = absurd cc
keeps-units Wtf8Scheme order bytes e = absurd cc
keeps-units Utf16Le order bytes e = refl
keeps-units Utf16Be order bytes e = refl
keeps-units Utf16Scheme order bytes e = refl
keeps-units Utf32Le order bytes e = absurd cc
keeps-units Utf32Be order bytes e = absurd cc
keeps-units Utf32Scheme order bytes e = absurd cc

pub units-become : UnitsBecomeWtf8
units-become from order bytes is =
    let body = drop (bom_len from bytes) bytes in
    let all : items_read from Wtf8Scheme bytes ≡ map Char (code_points Utf16Form (units_in order body)) =
    ap (λ l. items_in l (keeps_halves from Wtf8Scheme) false body) is ∙ ap (λ k. items_in (Utf16 order) k false body) (keeps-units from order bytes is) in
    text-of-chars from Wtf8Scheme bytes (code_points Utf16Form (units_in order body)) all ∙ ap (λ l. record { text = wtf8 (units_in order body); ending = ending_of_part (length bytes % unit_len l) }) is

keeps-points : (to : Scheme) (order : BoM) → layout_to to ≡ Utf16 order → keeps_halves Wtf8Scheme to ≡ true
keeps-points Utf8Scheme order e = absurd cc
keeps-points Wtf8Scheme order e = absurd cc
keeps-points Utf16Le order e = refl
keeps-points Utf16Be order e = refl
keeps-points Utf16Scheme order e = refl
keeps-points Utf32Le order e = absurd cc
keeps-points Utf32Be order e = absurd cc
keeps-points Utf32Scheme order e = absurd cc

pub wtf8-becomes : Wtf8BecomesUnits
wtf8-becomes to order units all is =
    let cs = code_points Utf16Form units in
    let points : wtf8_items false (wtf8 units) ≡ map Char cs =
    ap (wtf8_items false) (sym (append-nil (wtf8 units))) ∙ items-units units [] all ∙ ap (λ js. map Char cs ++ js) (wtf8_items-unique (ends_in_high false (map Char cs)) [] [] (none (ends_in_high false (map Char cs)))) ∙ append-nil (map Char cs) in
    let left : length (wtf8 units) % 1 ≡ 0 = omega arith in
    let read : items_read Wtf8Scheme to (wtf8 units) ≡ map Char cs = ap (λ k. items_in Wtf8 k false (wtf8 units)) (keeps-points to order is) ∙ points in
    text-of-chars Wtf8Scheme to (wtf8 units) cs read ∙ ap (λ l. record { text = encoded l cs; ending = ending_of_part (length (wtf8 units) % 1) }) is ∙ ap (λ us. record { text = bytes_in order us; ending = ending_of_part (length (wtf8 units) % 1) }) (encode-code_points units all)
    ∙ ap (λ n. record { text = bytes_in order units; ending = ending_of_part n }) left
