-- The bytes that were read are those of the code points.
use Rattle.std.proofs.Common.{◌≡◌, ℕ, zero, suc, ◌+◌, ◌*◌, ◌/◌, ◌%◌, ◌^◌, ◌<◌, ◌≤◌, List, [], ◌∷◌, ◌++◌, length, take, drop, refl, sym, ap, ◌∙◌, subst, arith}
use Rattle.std.specs.List.{All}
use Rattle.std.proofs.lemmas.List.{append-nil, append_cancel_right, take-append-drop}
use Rattle.std.proofs.lemmas.List.Elements.{All-cons, All-nil, All-take}
use Rattle.wide_forms.specs.EncodingForm.{Utf16 as Utf16Form, Utf32 as Utf32Form, IsCodeUnit, encode}
use Rattle.wide_forms.specs.Utf8.{utf8}
use Rattle.wide_unit.specs.CodePoints.{code_points}
use Rattle.wide_bytes.specs.Bytes.{bytes_in, unit_in, units_in}
use Rattle.wide_bytes.specs.declared.order.BoM.{BoM}
use Rattle.wide_bytes.specs.declared.order.BoM.TheVariants.{Little, Big}
use Rattle.wide_bytes.proofs.WholeBytes.{AreBytes}
use Rattle.wide_forms.specs.Items.{items}
use Rattle.wide_forms.specs.Laws.Items.{items-encode}
use Rattle.wide_forms.specs.Laws.Utf32.{encode32}
use Rattle.wide_schemes.specs.Decoded.{IsScalarPart}
use Rattle.wide_schemes.specs.Layouts.{bytes32_in, encoded, unit32_in, units32_in}
use Rattle.wide_schemes.specs.PointRuns.{IsPointRun}
use Rattle.wide_schemes.specs.ItemLaws.{code_points-encode}
use Rattle.wide_schemes.specs.Wtf8Laws.{encode-code_points}
use Rattle.wide_schemes.specs.declared.layout.Layout.TheVariants.{Utf8, Wtf8, Utf16, Utf32}
use Rattle.wide_schemes.proofs.TextPrefixes.{TextPart, codes-of_chars}

-- The first bytes of a list that begins with others.
front : (bs cs : List ℕ) (n : ℕ) → bs ++ [] ≡ cs ++ (drop n bs ++ []) → take n bs ≡ cs
front bs cs n e =
    let whole : bs ≡ cs ++ drop n bs = sym (append-nil bs) ∙ e ∙ ap (λ xs. cs ++ xs) (append-nil (drop n bs)) in
    append_cancel_right (take n bs) cs (drop n bs) (take-append-drop n bs ∙ whole)

pub part-bytes : (bs : List ℕ) (n : ℕ) (us : List ℕ) → TextPart bs n us → take n bs ≡ encoded Utf8 (code_points Utf16Form us)
part-bytes bs n us part = front bs (utf8 part.chars) n (part.whole []) ∙ ap utf8 (sym (codes-of_chars us part.chars part.items))

pub run-bytes : (keeps h h' : _) (bs us : List ℕ) (n : ℕ) → IsPointRun keeps h bs n us h' → take n bs ≡ encoded Wtf8 (code_points Utf16Form us)
run-bytes keeps h h' bs us n run = front bs (utf8 run.codes) n (run.whole []) ∙ ap utf8 (sym (ap (code_points Utf16Form) (sym run.units) ∙ code_points-encode h run.codes run.bound run.apart))

-- An even number of bytes are those of their units.
even-bytes : (order : BoM) (c : ℕ) (bytes : List ℕ) → AreBytes bytes → 2 * c ≤ length bytes → take (2 * c) bytes ≡ bytes_in order (take c (units_in order bytes))
unfolding units_in
even-bytes Big zero bytes fits within = refl
even-bytes Little zero bytes fits within = refl
even-bytes order (suc c) [] fits within = absurd (omega arith)
even-bytes order (suc c) (a ∷ []) fits within = absurd (omega arith)
even-bytes order (suc c) (a ∷ b ∷ bytes) fits within =
    let two : 2 * suc c ≡ suc (suc (2 * c)) = omega arith in
    let rest = even-bytes order c bytes (λ i. fits (suc (suc i))) (omega (arith, within)) in
    let one : a ∷ b ∷ [] ≡ bytes_in order (unit_in order a b ∷ []) = pair-bytes order in
    ap (λ n. take n (a ∷ b ∷ bytes)) two ∙ ap (λ xs. a ∷ b ∷ xs) rest ∙ ap (λ xs. xs ++ bytes_in order (take c (units_in order bytes))) one ∙ joined order
  where
    pair-bytes : (o : BoM) → a ∷ b ∷ [] ≡ bytes_in o (unit_in o a b ∷ [])
    pair-bytes Big =
        let first : (0x100 * a + b) / 0x100 ≡ a = omega (arith, (fits 1).fits) in
        let second : (0x100 * a + b) % 0x100 ≡ b = omega (arith, (fits 1).fits) in
        ap (λ x. x ∷ b ∷ []) (sym first) ∙ ap (λ x. ((0x100 * a + b) / 0x100) ∷ x ∷ []) (sym second)
    pair-bytes Little =
        let first : (a + 0x100 * b) % 0x100 ≡ a = omega (arith, (fits 0).fits) in
        let second : (a + 0x100 * b) / 0x100 ≡ b = omega (arith, (fits 0).fits) in
        ap (λ x. x ∷ b ∷ []) (sym first) ∙ ap (λ x. ((a + 0x100 * b) % 0x100) ∷ x ∷ []) (sym second)

    joined : (o : BoM) → bytes_in o (unit_in order a b ∷ []) ++ bytes_in o (take c (units_in order bytes)) ≡ bytes_in o (unit_in order a b ∷ take c (units_in order bytes))
    joined Big = refl
    joined Little = refl

-- The units of bytes have 16 bits.
units-bound : (order : BoM) (bytes : List ℕ) → AreBytes bytes → All (IsCodeUnit Utf16Form) (units_in order bytes)
unfolding units_in
units-bound order [] fits = All-nil (IsCodeUnit Utf16Form)
units-bound order (a ∷ []) fits = All-nil (IsCodeUnit Utf16Form)
units-bound order (a ∷ b ∷ bytes) fits = All-cons (IsCodeUnit Utf16Form) (unit_in order a b) (units_in order bytes) (bound order) (units-bound order bytes (λ i. fits (suc (suc i))))
  where
    bound : (o : BoM) → unit_in o a b < 2 ^ 16
    bound Big = omega (arith, (fits 0).fits, (fits 1).fits)
    bound Little = omega (arith, (fits 0).fits, (fits 1).fits)

pub units-bytes : (order : BoM) (bytes us : List ℕ) (c : ℕ) → AreBytes bytes → 2 * c ≤ length bytes → us ≡ take c (units_in order bytes) → take (2 * c) bytes ≡ encoded (Utf16 order) (code_points Utf16Form us)
units-bytes order bytes us c fits within same =
    let bound : All (IsCodeUnit Utf16Form) us = subst (All (IsCodeUnit Utf16Form)) (sym same) (All-take (IsCodeUnit Utf16Form) c (units_in order bytes) (units-bound order bytes fits)) in
    even-bytes order c bytes fits within ∙ ap (bytes_in order) (sym same) ∙ ap (bytes_in order) (sym (encode-code_points us bound))

-- Fours of bytes are those of their units.
fours-bytes : (order : BoM) (c : ℕ) (bytes : List ℕ) → AreBytes bytes → 4 * c ≤ length bytes → take (4 * c) bytes ≡ bytes32_in order (units32_in order (take (4 * c) bytes))
unfolding units32_in
fours-bytes Big zero bytes fits within = refl
fours-bytes Little zero bytes fits within = refl
fours-bytes order (suc c) [] fits within = absurd (omega arith)
fours-bytes order (suc c) (a ∷ []) fits within = absurd (omega arith)
fours-bytes order (suc c) (a ∷ b ∷ []) fits within = absurd (omega arith)
fours-bytes order (suc c) (a ∷ b ∷ d ∷ []) fits within = absurd (omega arith)
fours-bytes order (suc c) (a ∷ b ∷ d ∷ e ∷ bytes) fits within =
    let four : 4 * suc c ≡ suc (suc (suc (suc (4 * c)))) = omega arith in
    let rest = fours-bytes order c bytes (λ i. fits (suc (suc (suc (suc i))))) (omega (arith, within)) in
    subst (λ n. take n (a ∷ b ∷ d ∷ e ∷ bytes) ≡ bytes32_in order (units32_in order (take n (a ∷ b ∷ d ∷ e ∷ bytes)))) (sym four)
    (ap (λ xs. a ∷ b ∷ d ∷ e ∷ xs) rest ∙ ap (λ xs. xs ++ bytes32_in order (units32_in order (take (4 * c) bytes))) (four-bytes order) ∙ joined order)
  where
    four-bytes : (o : BoM) → a ∷ b ∷ d ∷ e ∷ [] ≡ bytes32_in o (unit32_in o a b d e ∷ [])
    four-bytes Big =
        let u = 0x100_0000 * a + 0x1_0000 * b + 0x100 * d + e in
        let one : u / 0x100_0000 ≡ a = omega (arith, (fits 1).fits, (fits 2).fits, (fits 3).fits) in
        let two : u / 0x1_0000 % 0x100 ≡ b = omega (arith, (fits 1).fits, (fits 2).fits, (fits 3).fits) in
        let three : u / 0x100 % 0x100 ≡ d = omega (arith, (fits 2).fits, (fits 3).fits) in
        let four : u % 0x100 ≡ e = omega (arith, (fits 3).fits) in
        ap (λ x. x ∷ b ∷ d ∷ e ∷ []) (sym one) ∙ ap (λ x. (u / 0x100_0000) ∷ x ∷ d ∷ e ∷ []) (sym two) ∙ ap (λ x. (u / 0x100_0000) ∷ (u / 0x1_0000 % 0x100) ∷ x ∷ e ∷ []) (sym three) ∙ ap (λ x. (u / 0x100_0000) ∷ (u / 0x1_0000 % 0x100) ∷ (u / 0x100 % 0x100) ∷ x ∷ []) (sym four)
    four-bytes Little =
        let u = a + 0x100 * b + 0x1_0000 * d + 0x100_0000 * e in
        let one : u % 0x100 ≡ a = omega (arith, (fits 0).fits) in
        let two : u / 0x100 % 0x100 ≡ b = omega (arith, (fits 0).fits, (fits 1).fits) in
        let three : u / 0x1_0000 % 0x100 ≡ d = omega (arith, (fits 0).fits, (fits 1).fits, (fits 2).fits) in
        let four : u / 0x100_0000 ≡ e = omega (arith, (fits 0).fits, (fits 1).fits, (fits 2).fits) in
        ap (λ x. x ∷ b ∷ d ∷ e ∷ []) (sym one) ∙ ap (λ x. (u % 0x100) ∷ x ∷ d ∷ e ∷ []) (sym two) ∙ ap (λ x. (u % 0x100) ∷ (u / 0x100 % 0x100) ∷ x ∷ e ∷ []) (sym three) ∙ ap (λ x. (u % 0x100) ∷ (u / 0x100 % 0x100) ∷ (u / 0x1_0000 % 0x100) ∷ x ∷ []) (sym four)

    joined : (o : BoM) → bytes32_in o (unit32_in order a b d e ∷ []) ++ bytes32_in o (units32_in order (take (4 * c) bytes)) ≡ bytes32_in o (unit32_in order a b d e ∷ units32_in order (take (4 * c) bytes))
    joined Big = refl
    joined Little = refl

pub part-bytes32 : (order : BoM) (bytes us : List ℕ) (n : ℕ) → AreBytes bytes → IsScalarPart order bytes n us → take n bytes ≡ encoded (Utf32 order) (code_points Utf16Form us)
part-bytes32 order bytes us n fits part =
    let cs = units32_in order (take n bytes) in
    let codes : code_points Utf16Form us ≡ cs = codes-of_chars us cs (ap (items Utf16Form) part.units ∙ items-encode Utf16Form cs part.scalars) in
    let whole = fours-bytes order part.count bytes fits (omega (arith, part.whole, part.within)) in
    subst (λ k. take k bytes ≡ bytes32_in order (units32_in order (take k bytes))) (sym part.whole) whole ∙ ap (bytes32_in order) (sym (encode32 cs)) ∙ ap (λ ds. bytes32_in order (encode Utf32Form ds)) (sym codes)
