-- Code points and faults of bytes, by the bytes of code points at their beginning, and of units.
use Rattle.std.proofs.Common.{◌≡◌, ℕ, ◌<◌, inl, inr, List, [], ◌∷◌, ◌++◌, Bool, true, false, true≢false, Some, length, drop, refl, sym, ap, ◌∙◌, subst, arith, append_assoc}
use Rattle.std.specs.Prelude.{map, slice_index, if◌then◌else◌}
use Rattle.std.specs.Char.{IsScalar}
use Rattle.std.specs.List.{All}
use Rattle.std.specs.Str.{IsUtf8}
use Rattle.std.specs.Str.{chars as str_chars}
use Rattle.std.proofs.lemmas.Bool.{cases_Bool}
use Rattle.std.proofs.lemmas.Bool.Decides.{nat_tests}
use Rattle.std.proofs.lemmas.List.Elements.{All-cons, All-head, All-tail, All-nil}
use Rattle.std.proofs.lemmas.Str.{chars_from_encodes}
use Rattle.wide_forms.specs.EncodingForm.{Utf16, IsCodeUnit, encode, code_units, IsPair}
use Rattle.wide_forms.specs.Items.{items}
use Rattle.wide_forms.specs.Laws.Chains.{Chain, MayPrecede}
use Rattle.wide_forms.specs.Laws.Forms.{one_unit, ranges, scalar_from, IsFault-surrogate, pair16, pair16-parts}
use Rattle.wide_forms.specs.Laws.Items.{items-chain, items-of_chain}
use Rattle.wide_forms.specs.Laws.Texts.{All-of_all_scalars}
use Rattle.wide_forms.specs.Laws.Utf8.{utf8-encode_utf8_all}
use Rattle.wide_forms.specs.Searches.{is_high, is_low, is_surrogate}
use Rattle.wide_forms.specs.Segmentation.{Item, Char, Fault, IsItem, item_units, units_of}
use Rattle.wide_forms.specs.Utf8.{utf8, utf8_bytes}
use Rattle.wide_unit.specs.CodePoints.{code_of, code_points}
use Rattle.wide_schemes.specs.Wtf8Laws.{code_points-bound}
use Rattle.wide_schemes.specs.Wtf8Items.{AreWtf8Items, IsCodePoint, none, point, part, ends_in_high, point_item, wtf8_items, wtf8_items-unique, wtf8_items-divide, StartsWithNoPoint, number_read, bytes_left}
use Rattle.wide_schemes.specs.Layouts.{scalar_item}
use Rattle.wide_forms.specs.CodePoint.{code_point_at}
use Rattle.std.specs.Str.Lossy.{utf8_invalid_len}
use Rattle.wide_conversions.specs.Laws.Utf8Items.{shorter-char}
use Rattle.wide_forms.specs.Laws.Utf8.{code_point_at-bytes}

-- A scalar value is no half of a pair.
pub low-scalar : (c : ℕ) → IsScalar c → is_low c ≡ false
low-scalar c scalar = let r = (ranges c scalar).no_surrogate in grind (arith, nat_tests)

pub high-scalar : (c : ℕ) → IsScalar c → is_high c ≡ false
high-scalar c scalar = let r = (ranges c scalar).no_surrogate in grind (arith, nat_tests)

-- The state after an item and others is that after the others.
ends-cons : (h : Bool) (i : Item) (is : List Item) → ends_in_high h (i ∷ is) ≡ ends_in_high (ends_in_high h (i ∷ [])) is
ends-cons h (Char c) is = refl
ends-cons h (Fault u) is = refl

pub ends-append : (h : Bool) (is js : List Item) → ends_in_high h (is ++ js) ≡ ends_in_high (ends_in_high h is) js
ends-append h [] js = refl
ends-append h (Char c ∷ is) js = ends-append (is_high c) is js
ends-append h (Fault u ∷ is) js = ends-append h is js

-- The items of code points, after one that is the first half of a pair or not.
abbrev pub point_items : Bool → List ℕ → List Item
point_items h [] = []
point_items h (c ∷ cs) = point_item h c ∷ point_items (ends_in_high h (point_item h c ∷ [])) cs

are-points : (h : Bool) (cs bs : List ℕ) (is : List Item) → All IsCodePoint cs → AreWtf8Items (ends_in_high h (point_items h cs)) bs is → AreWtf8Items h (utf8 cs ++ bs) (point_items h cs ++ is)
are-points h [] bs is all more = more
are-points h (c ∷ cs) bs is all more =
    let k = ends_in_high h (point_item h c ∷ []) in
    let more' = subst (λ t. AreWtf8Items t bs is) (ends-cons h (point_item h c) (point_items k cs)) more in
    let beyond = are-points k cs bs is (All-tail IsCodePoint c cs all) more' in
    subst (λ xs. AreWtf8Items h xs (point_items h (c ∷ cs) ++ is)) (sym (append_assoc (utf8_bytes c) (utf8 cs) bs))
    (point h c (utf8 cs ++ bs) (point_items k cs ++ is) (All-head IsCodePoint c cs all) beyond)

-- Bytes that begin with those of code points have these as their first items.
pub items-points : (h : Bool) (cs bs : List ℕ) → All IsCodePoint cs → wtf8_items h (utf8 cs ++ bs) ≡ point_items h cs ++ wtf8_items (ends_in_high h (point_items h cs)) bs
items-points h cs bs all = wtf8_items-unique h (utf8 cs ++ bs) (point_items h cs ++ wtf8_items (ends_in_high h (point_items h cs)) bs) (are-points h cs bs (wtf8_items (ends_in_high h (point_items h cs)) bs) all (wtf8_items-divide (ends_in_high h (point_items h cs)) bs))

-- Scalar values are characters.
item-scalar : (h : Bool) (c : ℕ) → IsScalar c → point_item h c ≡ Char c
item-scalar true c scalar = rw (low-scalar c scalar)
item-scalar false c scalar = refl

pub point_items-scalars : (h : Bool) (cs : List ℕ) → All IsScalar cs → point_items h cs ≡ map Char cs
point_items-scalars h [] all = refl
point_items-scalars h (c ∷ cs) all =
    let here = item-scalar h c (All-head IsScalar c cs all) in
    let rest = point_items-scalars (ends_in_high h (point_item h c ∷ [])) cs (All-tail IsScalar c cs all) in
    ap (λ i. i ∷ point_items (ends_in_high h (point_item h c ∷ [])) cs) here ∙ ap (λ is. Char c ∷ is) rest

pub points-of_scalars : (cs : List ℕ) → All IsScalar cs → All IsCodePoint cs
points-of_scalars [] all = All-nil IsCodePoint
points-of_scalars (c ∷ cs) all = All-cons IsCodePoint c cs (ranges c (All-head IsScalar c cs all)).below (points-of_scalars cs (All-tail IsScalar c cs all))

-- Bytes with a prefix that is UTF-8 begin with its characters.
pub items-text : (h : Bool) (text bs : List ℕ) → IsUtf8 text → wtf8_items h (text ++ bs) ≡ map Char (str_chars text) ++ wtf8_items (ends_in_high h (map Char (str_chars text))) bs
items-text h text bs valid =
    let cs = valid.0 in
    let scalars : All IsScalar cs = All-of_all_scalars cs valid.1.0 in
    let same : cs ≡ str_chars text = chars_from_encodes cs text valid valid.1.1 in
    let bytes : utf8 cs ≡ text = utf8-encode_utf8_all cs ∙ valid.1.1 in
    let are : point_items h cs ≡ map Char (str_chars text) = point_items-scalars h cs scalars ∙ ap (map Char) same in
    ap (λ xs. wtf8_items h (xs ++ bs)) (sym bytes) ∙ items-points h cs bs (points-of_scalars cs scalars) ∙ ap (λ is. is ++ wtf8_items (ends_in_high h is) bs) are

-- The items of units as the code points of WTF-8: no second half follows a first one, since they would be a pair.
abbrev high_item : Item → Bool
high_item (Char c) = false
high_item (Fault u) = is_high u

-- The state before items of units: that of an item which may precede them.
record MayFollow (h : Bool) (is : List Item) : Type 0 where
  free : (u : ℕ) (js : List Item) → h ≡ true → is ≡ Fault u ∷ js → is_low u ≡ false

follow-cons : (i : Item) (is : List Item) → MayPrecede Utf16 i is → MayFollow (high_item i) is
follow-cons (Char c) is may = record { free = λ u js high e. cc }
follow-cons (Fault h) is may = record {
  free = λ u js high e.
      let may' = subst (MayPrecede Utf16 (Fault h)) e may in
      elim (cases_Bool (is_low u)) [
        | inl low ↦ absurd (may' (pair16 h u (record { from = grind (arith, nat_tests); to = grind (arith, nat_tests) }) (record { from = grind (arith, nat_tests); to = grind (arith, nat_tests) })))
        | inr other ↦ other
      ];
}

-- The state after an item of units.
ends-item : (i : Item) → IsItem Utf16 i → is_high (code_of i) ≡ high_item i
ends-item (Char c) proper = high-scalar c proper
ends-item (Fault u) proper = refl

points-item : (h : Bool) (i : Item) (is : List Item) → Chain Utf16 (i ∷ is) → MayFollow h (i ∷ is) → point_item h (code_of i) ≡ Char (code_of i)
points-item false i is chain may = refl
points-item true (Char c) is chain may = rw (low-scalar c chain.0)
points-item true (Fault u) is chain may = rw (may.free u is refl refl)

points-chain : (h : Bool) (is : List Item) → Chain Utf16 is → MayFollow h is → point_items h (map code_of is) ≡ map Char (map code_of is)
points-chain h [] chain may = refl
points-chain h (i ∷ is) chain may =
    let here = points-item h i is chain may in
    let state : ends_in_high h (point_item h (code_of i) ∷ []) ≡ high_item i = ap (λ j. ends_in_high h (j ∷ [])) here ∙ ends-item i chain.0 in
    let rest = points-chain (high_item i) is chain.2 (follow-cons i is chain.1) in
    ap (λ j. j ∷ point_items (ends_in_high h (point_item h (code_of i) ∷ [])) (map code_of is)) here
    ∙ ap (λ t. Char (code_of i) ∷ point_items t (map code_of is)) state
    ∙ ap (λ js. Char (code_of i) ∷ js) rest

-- The code points of units are no faults.
pub point_items-units : (us : List ℕ) → point_items false (code_points Utf16 us) ≡ map Char (code_points Utf16 us)
point_items-units us = points-chain false (items Utf16 us) (items-chain Utf16 us) (record { free = λ u js high e. absurd (true≢false (sym high)) })

-- The items of the bytes of units are their code points, whatever follows the bytes.
pub items-units : (us bs : List ℕ) → All (IsCodeUnit Utf16) us → wtf8_items false (utf8 (code_points Utf16 us) ++ bs) ≡ map Char (code_points Utf16 us) ++ wtf8_items (ends_in_high false (map Char (code_points Utf16 us))) bs
items-units us bs units = items-points false (code_points Utf16 us) bs (code_points-bound us units) ∙ ap (λ is. is ++ wtf8_items (ends_in_high false is) bs) (point_items-units us)

-- Bytes without a fault are those of code points, none of which is the second half of a pair after the first.
pub record ArePoints (h : Bool) (bs cs : List ℕ) : Type 0 where
  pub bytes : bs ≡ utf8 cs
  pub bound : All IsCodePoint cs
  pub apart : point_items h cs ≡ map Char cs

points-from : (h : Bool) (bs : List ℕ) (is : List Item) (cs : List ℕ) → AreWtf8Items h bs is → is ≡ map Char cs → ArePoints h bs cs
points-from h bs is [] (none _) e = record { bytes = refl; bound = All-nil IsCodePoint; apart = refl }
points-from h bs is (c ∷ cs) (none _) e = absurd cc
points-from h bs is cs (part _ bs' is' some unread more) e = absurd (never cs e)
  where
    never : (ds : List ℕ) → Fault (slice_index bs' 0) ∷ is' ≡ map Char ds → ⊥
    never [] e = cc
    never (d ∷ ds) e = cc
points-from h bs is [] (point _ d rest js bound more) e = absurd cc
points-from h bs is (c ∷ cs) (point _ d rest js bound more) e =
    let head : point_item h d ≡ Char c = cc in
    let tail : js ≡ map Char cs = cc in
    let same : d ≡ c = char-of h d c head in
    let beyond = points-from (ends_in_high h (point_item h d ∷ [])) rest js cs more tail in
    record {
      bytes = ap (λ xs. utf8_bytes d ++ xs) beyond.bytes ∙ ap (λ n. utf8_bytes n ++ utf8 cs) same;
      bound = All-cons IsCodePoint c cs (subst IsCodePoint same bound) beyond.bound;
      apart = subst (λ n. point_item h n ∷ point_items (ends_in_high h (point_item h n ∷ [])) cs ≡ map Char (c ∷ cs)) same
          (ap (λ is. point_item h d ∷ is) beyond.apart ∙ ap (λ i. i ∷ map Char cs) head);
    }
  where
    char-of : (t : Bool) (m n : ℕ) → point_item t m ≡ Char n → m ≡ n
    char-of true m n e = elim (cases_Bool (is_low m)) [
      | inl low ↦ (let f : Fault m ≡ Char n = rw low at e in absurd cc)
      | inr other ↦ (let f : Char m ≡ Char n = rw other at e in cc)
    ]
    char-of false m n e = cc

pub points-of_items : (h : Bool) (bs cs : List ℕ) → wtf8_items h bs ≡ map Char cs → ArePoints h bs cs
points-of_items h bs cs e = points-from h bs (wtf8_items h bs) cs (wtf8_items-divide h bs) e

-- The item in UTF-16 of a code point: a surrogate is a unit that belongs to no character.
abbrev item_of : ℕ → Item
item_of c = if is_surrogate c then Fault c else Char c

code-of : (c : ℕ) → code_of (item_of c) ≡ c
code-of c = elim (cases_Bool (is_surrogate c)) [
  | inl half ↦ rw half
  | inr scalar ↦ rw scalar
]

codes-of : (cs : List ℕ) → map code_of (map item_of cs) ≡ cs
codes-of [] = refl
codes-of (c ∷ cs) = ap (λ n. n ∷ map code_of (map item_of cs)) (code-of c) ∙ ap (λ ds. c ∷ ds) (codes-of cs)

units-item : (c : ℕ) → IsCodePoint c → item_units Utf16 (item_of c) ≡ code_units Utf16 c
units-item c bound = elim (cases_Bool (is_surrogate c)) [
  | inl half ↦ (let below : c < 0x1_0000 = grind (arith, nat_tests) in rw half (sym (one_unit c below)))
  | inr scalar ↦ rw scalar refl
]

units-items : (cs : List ℕ) → All IsCodePoint cs → units_of Utf16 (map item_of cs) ≡ encode Utf16 cs
units-items [] all = refl
units-items (c ∷ cs) all = ap (λ us. us ++ units_of Utf16 (map item_of cs)) (units-item c (All-head IsCodePoint c cs all)) ∙ ap (λ us. code_units Utf16 c ++ us) (units-items cs (All-tail IsCodePoint c cs all))

proper-item : (c : ℕ) → IsCodePoint c → IsItem Utf16 (item_of c)
proper-item c bound = elim (cases_Bool (is_surrogate c)) [
  | inl half ↦ rw half (IsFault-surrogate c (grind (arith, nat_tests)) (grind (arith, nat_tests)))
  | inr other ↦ rw other (scalar_from c (record { below = bound; no_surrogate = λ from. grind (arith, nat_tests) }))
]

-- A half that precedes another one is no first half before a second one.
apart-pair : (c d : ℕ) (ds : List ℕ) → point_items (is_high c) (d ∷ ds) ≡ map Char (d ∷ ds) → ¬ (IsPair Utf16 c d)
apart-pair c d ds apart pair =
    let parts = pair16-parts c d pair in
    let high : is_high c ≡ true = (let a = parts.0.from in let b = parts.0.to in grind (arith, nat_tests)) in
    let low : is_low d ≡ true = (let a = parts.1.from in let b = parts.1.to in grind (arith, nat_tests)) in
    let e : point_item (is_high c) d ≡ Char d = cc in
    let f : Fault d ≡ Char d = rw (high, low) at e in
    absurd cc

may-precede : (c : ℕ) (cs : List ℕ) → point_items (is_high c) cs ≡ map Char cs → MayPrecede Utf16 (item_of c) (map item_of cs)
may-precede c [] apart = elim (cases_Bool (is_surrogate c)) [
  | inl half ↦ rw half tt
  | inr other ↦ rw other tt
]
may-precede c (d ∷ ds) apart = elim (cases_Bool (is_surrogate c)) [
  | inr other ↦ rw other tt
  | inl half ↦ elim (cases_Bool (is_surrogate d)) [
    | inr other ↦ rw (half, other) tt
    | inl second ↦ rw (half, second) (apart-pair c d ds apart)
  ]
]

apart-tail : (h : Bool) (c : ℕ) (cs : List ℕ) → point_items h (c ∷ cs) ≡ map Char (c ∷ cs) → point_items (is_high c) cs ≡ map Char cs
apart-tail h c cs apart =
    let here : point_item h c ≡ Char c = cc in
    let rest : point_items (ends_in_high h (point_item h c ∷ [])) cs ≡ map Char cs = cc in
    subst (λ i. point_items (ends_in_high h (i ∷ [])) cs ≡ map Char cs) here rest

chain-points : (h : Bool) (cs : List ℕ) → All IsCodePoint cs → point_items h cs ≡ map Char cs → Chain Utf16 (map item_of cs)
chain-points h [] all apart = tt
chain-points h (c ∷ cs) all apart =
    let rest = apart-tail h c cs apart in
    (proper-item c (All-head IsCodePoint c cs all), may-precede c cs rest, chain-points (is_high c) cs (All-tail IsCodePoint c cs all) rest)

-- Code points without a pair in two halves are those of their units.
pub code_points-encode : (h : Bool) (cs : List ℕ) → All IsCodePoint cs → point_items h cs ≡ map Char cs → code_points Utf16 (encode Utf16 cs) ≡ cs
code_points-encode h cs all apart =
    ap (λ us. code_points Utf16 us) (sym (units-items cs all)) ∙ ap (map code_of) (items-of_chain Utf16 (map item_of cs) (chain-points h cs all apart)) ∙ codes-of cs

-- Outside of WTF-8 a half is a fault after whatever precedes it.
scalar-point : (h k : Bool) (c : ℕ) → scalar_item (point_item h c) ≡ scalar_item (point_item k c)
scalar-point h k c = scalar-any h c ∙ sym (scalar-any k c)
  where
    scalar-any : (t : Bool) (n : ℕ) → scalar_item (point_item t n) ≡ scalar_item (Char n)
    scalar-any false n = refl
    scalar-any true n = elim (cases_Bool (is_low n)) [
      | inl low ↦ (let half : is_surrogate n ≡ true = grind (arith, nat_tests) in rw (low, half))
      | inr other ↦ rw other
    ]

scalar-same : (h k : Bool) (bs ds : List ℕ) (is js : List Item) → bs ≡ ds → AreWtf8Items h bs is → AreWtf8Items k ds js → map scalar_item is ≡ map scalar_item js
scalar-same h k bs ds is js e (none _) (none _) = refl
scalar-same h k bs ds is js e (none _) (point _ d rest js' bound more) = absurd (omega (arith, ap length e, shorter-char d rest))
scalar-same h k bs ds is js e (none _) (part _ ds' js' some unread more) = absurd (omega (arith, ap length e, some))
scalar-same h k bs ds is js e (point _ c rest is' bound more) (none _) = absurd (omega (arith, ap length e, shorter-char c rest))
scalar-same h k bs ds is js e (part _ bs' is' some unread more) (none _) = absurd (omega (arith, ap length e, some))
scalar-same h k bs ds is js e (point _ c rest is' bound more) (point _ d rest' js' bound' more') =
    let read : Some (c, rest) ≡ Some (d, rest') = sym (code_point_at-bytes c rest bound) ∙ ap code_point_at e ∙ code_point_at-bytes d rest' bound' in
    let same : c ≡ d = ap number_read read in
    let beyond = scalar-same (ends_in_high h (point_item h c ∷ [])) (ends_in_high k (point_item k d ∷ [])) rest rest' is' js' (ap bytes_left read) more more' in
    ap (λ i. i ∷ map scalar_item is') (scalar-point h k c ∙ ap (λ n. scalar_item (point_item k n)) same) ∙ ap (λ xs. scalar_item (point_item k d) ∷ xs) beyond
scalar-same h k bs ds is js e (point _ c rest is' bound more) (part _ ds' js' some unread more') = absurd (unread c rest bound (sym e))
scalar-same h k bs ds is js e (part _ bs' is' some unread more) (point _ d rest js' bound more') = absurd (unread d rest bound e)
scalar-same h k bs ds is js e (part _ bs' is' some unread more) (part _ ds' js' some' unread' more') =
    let beyond = scalar-same h k (drop (utf8_invalid_len bs') bs') (drop (utf8_invalid_len ds') ds') is' js' (ap (λ xs. drop (utf8_invalid_len xs) xs) e) more more' in
    ap (λ xs. Fault (slice_index xs 0) ∷ map scalar_item is') e ∙ ap (λ xs. Fault (slice_index ds' 0) ∷ xs) beyond

pub scalar_items-any : (h k : Bool) (bs : List ℕ) → map scalar_item (wtf8_items h bs) ≡ map scalar_item (wtf8_items k bs)
scalar_items-any h k bs = scalar-same h k bs bs (wtf8_items h bs) (wtf8_items k bs) refl (wtf8_items-divide h bs) (wtf8_items-divide k bs)

-- Bytes that begin with those of no code point begin with a fault.
pub items-part : (h : Bool) (bs : List ℕ) → 0 < length bs → StartsWithNoPoint bs → wtf8_items h bs ≡ Fault (slice_index bs 0) ∷ wtf8_items h (drop (utf8_invalid_len bs) bs)
items-part h bs some unread = wtf8_items-unique h bs (Fault (slice_index bs 0) ∷ wtf8_items h (drop (utf8_invalid_len bs) bs)) (part h bs (wtf8_items h (drop (utf8_invalid_len bs) bs)) some unread (wtf8_items-divide h (drop (utf8_invalid_len bs) bs)))

pub points-append : (h : Bool) (cs ds : List ℕ) → point_items h (cs ++ ds) ≡ point_items h cs ++ point_items (ends_in_high h (point_items h cs)) ds
points-append h [] ds = refl
points-append h (c ∷ cs) ds =
    let k = ends_in_high h (point_item h c ∷ []) in
    ap (λ is. point_item h c ∷ is) (points-append k cs ds) ∙ ap (λ t. point_item h c ∷ (point_items k cs ++ point_items t ds)) (sym (ends-cons h (point_item h c) (point_items k cs)))

pub ends-scalars : (cs : List ℕ) → All IsScalar cs → ends_in_high false (map Char cs) ≡ false
ends-scalars [] all = refl
ends-scalars (c ∷ cs) all = ap (λ t. ends_in_high t (map Char cs)) (high-scalar c (All-head IsScalar c cs all)) ∙ ends-scalars cs (All-tail IsScalar c cs all)

pub scalar-chars : (cs : List ℕ) → All IsScalar cs → map scalar_item (map Char cs) ≡ map Char cs
scalar-chars [] all = refl
scalar-chars (c ∷ cs) all =
    let r = (ranges c (All-head IsScalar c cs all)).no_surrogate in
    let other : is_surrogate c ≡ false = grind (arith, nat_tests) in
    let here : scalar_item (Char c) ≡ Char c = rw other in
    ap (λ i. i ∷ map scalar_item (map Char cs)) here ∙ ap (λ is. Char c ∷ is) (scalar-chars cs (All-tail IsScalar c cs all))
