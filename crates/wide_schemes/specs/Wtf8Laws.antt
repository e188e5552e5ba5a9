-- The bytes of 16-bit units determine the units.
use Rattle.std.proofs.Common.{◌≡◌, ℕ, ◌^◌, ◌<◌, List, [], ◌∷◌, ◌++◌, refl, sym, ap, ◌∙◌, subst, arith, Some, None, append_assoc}
use Rattle.std.specs.Prelude.{map}
use Rattle.std.specs.Char.{IsScalar}
use Rattle.std.specs.List.{All}
use Rattle.std.specs.Str.{IsUtf8}
use Rattle.std.proofs.lemmas.List.{append-nil, map-append}
use Rattle.std.proofs.lemmas.List.Concat.{flat_map-append}
use Rattle.std.proofs.lemmas.List.Elements.{All-cons, All-head, All-tail, All-nil}
use Rattle.wide_forms.specs.CodePoint.{code_point_at}
use Rattle.wide_forms.specs.EncodingForm.{Utf16, code_units, encode, IsCodeUnit, IsFault}
use Rattle.wide_forms.specs.Items.{items, chars, IsWellFormed}
use Rattle.wide_forms.specs.Segmentation.{Item, Char, Fault, units_of}
use Rattle.wide_forms.specs.Utf8.{utf8, utf8_bytes}
use Rattle.wide_forms.specs.Laws.Chains.{Chain}
use Rattle.wide_forms.specs.Laws.Forms.{one_unit, ranges}
use Rattle.wide_forms.specs.Laws.Items.{IsCut, items-append, items-chain, items-nil, units_of-items, chars-of_well_formed, IsWellFormed-of_chars}
use Rattle.wide_forms.specs.Laws.Offsets.{scalars-chars}
use Rattle.wide_forms.specs.Laws.Texts.{All-of_all_scalars}
use Rattle.wide_from_units.proofs.Utf8Texts.{IsUtf8-utf8}
use Rattle.wide_forms.specs.Laws.Utf8.{code_point_at-bytes, utf8-encode_utf8_all}
use Rattle.wide_unit.specs.CodePoints.{code_of, code_points}
use Rattle.wide_schemes.specs.Wtf8.{wtf8}
use Rattle.wide_schemes.specs.Wtf8Items.{IsCodePoint, number_read, bytes_left}

-- Bytes that begin with those of code points, and are those of code points, go on with those of the others.
pub record GoesOn (cs ds more : List ℕ) : Type 0 where
  pub others : List ℕ
  pub points : ds ≡ cs ++ others
  pub bytes : more ≡ utf8 others

some_bytes : (c : ℕ) (rest : List ℕ) → IsCodePoint c → ¬ (utf8_bytes c ++ rest ≡ [])
some_bytes c rest bound none = let e : None ≡ Some (c, rest) = sym (ap code_point_at none) ∙ code_point_at-bytes c rest bound in cc e

pub utf8-goes_on : (cs ds more : List ℕ) → All IsCodePoint cs → All IsCodePoint ds → utf8 cs ++ more ≡ utf8 ds → GoesOn cs ds more
utf8-goes_on [] ds more a b same = record { others = ds; points = refl; bytes = same }
utf8-goes_on (c ∷ cs) [] more a b same = absurd (some_bytes c (utf8 cs ++ more) (All-head IsCodePoint c cs a) (sym (append_assoc (utf8_bytes c) (utf8 cs) more) ∙ same))
utf8-goes_on (c ∷ cs) (d ∷ ds) more a b same =
    let e : Some (c, utf8 cs ++ more) ≡ Some (d, utf8 ds) =
    sym (code_point_at-bytes c (utf8 cs ++ more) (All-head IsCodePoint c cs a)) ∙ ap code_point_at (sym (append_assoc (utf8_bytes c) (utf8 cs) more) ∙ same) ∙ code_point_at-bytes d (utf8 ds) (All-head IsCodePoint d ds b) in
    let first : c ≡ d = ap number_read e in
    let next = utf8-goes_on cs ds more (All-tail IsCodePoint c cs a) (All-tail IsCodePoint d ds b) (ap bytes_left e) in
    record {
      others = next.others;
      points = ap (λ n. n ∷ ds) (sym first) ∙ ap (λ xs. c ∷ xs) next.points;
      bytes = next.bytes;
    }

-- Different code points have different bytes.
no_others : (es : List ℕ) → All IsCodePoint es → [] ≡ utf8 es → es ≡ []
no_others [] all none = refl
no_others (e ∷ es) all none = absurd (some_bytes e (utf8 es) (All-head IsCodePoint e es all) (sym none))

of_others : (cs es : List ℕ) → All IsCodePoint (cs ++ es) → All IsCodePoint es
of_others [] es all = all
of_others (c ∷ cs) es all = of_others cs es (All-tail IsCodePoint c (cs ++ es) all)

pub utf8-unique : (cs ds : List ℕ) → All IsCodePoint cs → All IsCodePoint ds → utf8 cs ≡ utf8 ds → cs ≡ ds
utf8-unique cs ds a b same =
    let on = utf8-goes_on cs ds [] a b (append-nil (utf8 cs) ∙ same) in
    let none : on.others ≡ [] = no_others on.others (of_others cs on.others (subst (All IsCodePoint) on.points b)) on.bytes in
    sym (on.points ∙ ap (λ es. cs ++ es) none ∙ append-nil cs)

-- The items of 16-bit units are code points, whose units are those of the items.
abbrev pub IsOfUnits : List Item → Type 0
IsOfUnits is = All (IsCodeUnit Utf16) (units_of Utf16 is)

pub fault-unit : (u : ℕ) (is : List Item) → IsOfUnits (Fault u ∷ is) → u < 2 ^ 16
fault-unit u is units = All-head (IsCodeUnit Utf16) u (units_of Utf16 is) units

pub after : (us vs : List ℕ) → All (IsCodeUnit Utf16) (us ++ vs) → All (IsCodeUnit Utf16) vs
after [] vs all = all
after (u ∷ us) vs all = after us vs (All-tail (IsCodeUnit Utf16) u (us ++ vs) all)

points-of : (is : List Item) → Chain Utf16 is → IsOfUnits is → All IsCodePoint (map code_of is)
points-of [] chain units = All-nil IsCodePoint
points-of (Char c ∷ is) chain units = All-cons IsCodePoint c (map code_of is) (ranges c chain.0).below (points-of is chain.2 (after (code_units Utf16 c) (units_of Utf16 is) units))
points-of (Fault u ∷ is) chain units =
    let bound : IsCodePoint u = (let h = fault-unit u is units in omega (arith, h)) in
    All-cons IsCodePoint u (map code_of is) bound (points-of is chain.2 (All-tail (IsCodeUnit Utf16) u (units_of Utf16 is) units))

encode-points : (is : List Item) → IsOfUnits is → encode Utf16 (map code_of is) ≡ units_of Utf16 is
encode-points [] units = refl
encode-points (Char c ∷ is) units = ap (λ us. code_units Utf16 c ++ us) (encode-points is (after (code_units Utf16 c) (units_of Utf16 is) units))
encode-points (Fault u ∷ is) units =
    ap (λ us. us ++ encode Utf16 (map code_of is)) (one_unit u (fault-unit u is units)) ∙ ap (λ us. u ∷ us) (encode-points is (All-tail (IsCodeUnit Utf16) u (units_of Utf16 is) units))

module _ (us : List ℕ) (units : All (IsCodeUnit Utf16) us) where
  pub of_items : IsOfUnits (items Utf16 us)
  of_items = subst (All (IsCodeUnit Utf16)) (sym (units_of-items Utf16 us)) units

  pub code_points-bound : All IsCodePoint (code_points Utf16 us)
  code_points-bound = points-of (items Utf16 us) (items-chain Utf16 us) of_items

  -- The units are those of their code points.
  pub encode-code_points : encode Utf16 (code_points Utf16 us) ≡ us
  encode-code_points = encode-points (items Utf16 us) of_items ∙ units_of-items Utf16 us

-- Different units have different bytes.
pub wtf8-unique : (us vs : List ℕ) → All (IsCodeUnit Utf16) us → All (IsCodeUnit Utf16) vs → wtf8 us ≡ wtf8 vs → us ≡ vs
wtf8-unique us vs a b same = sym (encode-code_points us a) ∙ ap (encode Utf16) (utf8-unique (code_points Utf16 us) (code_points Utf16 vs) (code_points-bound us a) (code_points-bound vs b) same) ∙ encode-code_points vs b

-- Characters alone: the bytes are UTF-8.
chars-alone : (cs : List ℕ) → map code_of (map Char cs) ≡ cs
chars-alone [] = refl
chars-alone (c ∷ cs) = ap (λ ds. c ∷ ds) (chars-alone cs)

-- The bytes of well-formed units are those of their characters.
pub wtf8-well_formed : (us : List ℕ) → IsWellFormed Utf16 us → wtf8 us ≡ utf8 (chars Utf16 us)
wtf8-well_formed us well = ap (λ is. utf8 (map code_of is)) (chars-of_well_formed Utf16 us well) ∙ ap utf8 (chars-alone (chars Utf16 us))

-- Scalar values are code points.
points-of_scalars : (cs : List ℕ) → All IsScalar cs → All IsCodePoint cs
points-of_scalars [] all = All-nil IsCodePoint
points-of_scalars (c ∷ cs) all = All-cons IsCodePoint c cs (ranges c (All-head IsScalar c cs all)).below (points-of_scalars cs (All-tail IsScalar c cs all))

-- A fault of 16 bits is no scalar value.
no-scalar : (u : ℕ) → u < 2 ^ 16 → IsFault Utf16 u → ¬ (IsScalar u)
no-scalar u bound fault scalar = fault u scalar (one_unit u bound)

-- Items whose code points are scalar values are characters.
all-chars : (is : List Item) → Chain Utf16 is → IsOfUnits is → All IsScalar (map code_of is) → is ≡ map Char (map code_of is)
all-chars [] chain units all = refl
all-chars (Char c ∷ is) chain units all = ap (λ js. Char c ∷ js) (all-chars is chain.2 (after (code_units Utf16 c) (units_of Utf16 is) units) (All-tail IsScalar c (map code_of is) all))
all-chars (Fault u ∷ is) chain units all = absurd (no-scalar u (fault-unit u is units) chain.0 (All-head IsScalar u (map code_of is) all))

-- The bytes are UTF-8 exactly if the units are well formed.
pub utf8-of_well_formed : (us : List ℕ) → IsWellFormed Utf16 us → IsUtf8 (wtf8 us)
utf8-of_well_formed us well = subst IsUtf8 (sym (wtf8-well_formed us well)) (IsUtf8-utf8 (chars Utf16 us) (scalars-chars Utf16 us well))

pub well_formed-of_utf8 : (us : List ℕ) → All (IsCodeUnit Utf16) us → IsUtf8 (wtf8 us) → IsWellFormed Utf16 us
well_formed-of_utf8 us units text =
    let cs = text.0 in
    let scalars : All IsScalar cs = All-of_all_scalars cs text.1.0 in
    let same : cs ≡ code_points Utf16 us = utf8-unique cs (code_points Utf16 us) (points-of_scalars cs scalars) (code_points-bound us units) (utf8-encode_utf8_all cs ∙ text.1.1) in
    IsWellFormed-of_chars Utf16 us (code_points Utf16 us) (all-chars (items Utf16 us) (items-chain Utf16 us) (of_items us units) (subst (All IsScalar) same scalars))

-- Units that are split within no pair have the bytes of both parts.
pub wtf8-append : (us vs : List ℕ) → IsCut Utf16 us vs → wtf8 (us ++ vs) ≡ wtf8 us ++ wtf8 vs
wtf8-append us vs cut =
    ap (λ is. utf8 (map code_of is)) (items-append Utf16 us vs cut) ∙ ap utf8 (map-append code_of (items Utf16 us) (items Utf16 vs)) ∙ flat_map-append utf8_bytes (code_points Utf16 us) (code_points Utf16 vs)

-- No units have no bytes.
pub wtf8-nil : wtf8 [] ≡ []
wtf8-nil = ap (λ is. utf8 (map code_of is)) (items-nil Utf16)
