-- What precedes the first fault of bytes, and that bytes without a fault are WTF-8.
use Rattle.std.proofs.Common.{◌≡◌, ◌↔◌, ℕ, zero, suc, ◌<◌, ◌≤◌, List, [], ◌∷◌, ◌++◌, inl, inr, Bool, true, false, get_or, length, length-append, length-take-le, take, drop, refl, sym, ap, ◌∙◌, subst, arith, append_assoc}
use Rattle.std.specs.Prelude.{map}
use Rattle.std.specs.List.{All, Contains}
use Rattle.std.proofs.lemmas.Bool.{cases_Bool}
use Rattle.std.proofs.lemmas.List.{take-append-drop, take-append-le, take_all}
use Rattle.std.proofs.lemmas.List.Concat.{flat_map-append}
use Rattle.std.proofs.lemmas.List.Elements.{All-cons, All-nil}
use Rattle.wide_forms.specs.EncodingForm.{Utf16, encode}
use Rattle.wide_forms.specs.Items.{characters}
use Rattle.wide_forms.specs.Searches.{is_low}
use Rattle.wide_forms.specs.Segmentation.{Item, Char, Fault}
use Rattle.wide_forms.specs.Utf8.{utf8, utf8_bytes}
use Rattle.wide_unit.specs.CodePoints.{code_points}
use Rattle.wide_schemes.specs.ItemLaws.{code_points-encode, items-units, point_items}
use Rattle.wide_schemes.specs.Wtf8.{IsWtf8, wtf8}
use Rattle.wide_schemes.specs.Wtf8Items.{AreWtf8Items, IsCodePoint, ends_in_high, none, part, point, point_item, wtf8_items, wtf8_items-divide}
use Rattle.wide_wtf8.specs.Faults.{IsFirstWtf8Fault}
use Rattle.wide_wtf8.specs.Laws.{encode-units, is-text, of-text, text-of_units, units-of_text}

-- Bytes that begin with those of code points, none of which is the second half of a pair after the first.
record BeginsWithPoints (h : Bool) (bs cs : List ℕ) : Type 0 where
  rest : List ℕ
  bytes : bs ≡ utf8 cs ++ rest
  bound : All IsCodePoint cs
  apart : point_items h cs ≡ map Char cs

char-of : (t : Bool) (m n : ℕ) → point_item t m ≡ Char n → m ≡ n
char-of true m n e = elim (cases_Bool (is_low m)) [
  | inl low ↦ (let f : Fault m ≡ Char n = rw low at e in absurd cc)
  | inr other ↦ (let f : Char m ≡ Char n = rw other at e in cc)
]
char-of false m n e = cc

points-before : (h : Bool) (bs : List ℕ) (is : List Item) (cs : List ℕ) (js : List Item) → AreWtf8Items h bs is → is ≡ map Char cs ++ js → BeginsWithPoints h bs cs
points-before h bs is [] js are e = record { rest = bs; bytes = refl; bound = All-nil IsCodePoint; apart = refl }
points-before h bs is (c ∷ cs) js (none _) e = absurd cc
points-before h bs is (c ∷ cs) js (part _ ds is' some unread more) e = absurd cc
points-before h bs is (c ∷ cs) js (point _ d ds is' bound more) e =
    let head : point_item h d ≡ Char c = cc in
    let tail : is' ≡ map Char cs ++ js = cc in
    let same : d ≡ c = char-of h d c head in
    let beyond = points-before (ends_in_high h (point_item h d ∷ [])) ds is' cs js more tail in
    record {
      rest = beyond.rest;
      bytes = ap (λ xs. utf8_bytes d ++ xs) beyond.bytes ∙ sym (append_assoc (utf8_bytes d) (utf8 cs) beyond.rest) ∙ ap (λ n. (utf8_bytes n ++ utf8 cs) ++ beyond.rest) same;
      bound = All-cons IsCodePoint c cs (subst IsCodePoint same bound) beyond.bound;
      apart = subst (λ n. point_item h n ∷ point_items (ends_in_high h (point_item h n ∷ [])) cs ≡ map Char (c ∷ cs)) same
          (ap (λ is. point_item h d ∷ is) beyond.apart ∙ ap (λ i. i ∷ map Char cs) head);
    }

front : (xs ys : List ℕ) → take (length xs) (xs ++ ys) ≡ xs
front xs ys = take-append-le (length xs) xs ys (omega arith) ∙ take_all (length xs) xs (omega arith)

-- The bytes before the first fault are WTF-8.
pub text-before_fault : (bs : List ℕ) (index len : ℕ) → IsFirstWtf8Fault bs index len → IsWtf8 (take index bs)
text-before_fault bs index len fault =
    let cs = fault.points in
    let points = points-before false bs (wtf8_items false bs) cs _ (wtf8_items-divide false bs) fault.items in
    record {
      units = encode Utf16 cs;
      sixteen_bits = encode-units cs points.bound;
      bytes = ap (λ k. take k bs) fault.before ∙ ap (take (length (utf8 cs))) points.bytes ∙ front (utf8 cs) points.rest ∙ ap utf8 (sym (code_points-encode false cs points.bound points.apart));
    }

-- Characters before others are before a fault after these.
prefix-of : (ds cs : List ℕ) (xs ys : List Item) (u : ℕ) → map Char ds ++ xs ≡ map Char cs ++ Fault u ∷ ys → (es : List ℕ) × (cs ≡ ds ++ es)
prefix-of [] cs xs ys u e = (cs, refl)
prefix-of (d ∷ ds) [] xs ys u e = absurd cc
prefix-of (d ∷ ds) (c ∷ cs) xs ys u e =
    let head : c ≡ d = cc in
    let tail : map Char ds ++ xs ≡ map Char cs ++ Fault u ∷ ys = cc in
    let beyond = prefix-of ds cs xs ys u tail in
    (beyond.0, ap (λ n. n ∷ cs) head ∙ ap (λ ns. d ∷ ns) beyond.1)

-- No prefix that is WTF-8 goes beyond the first fault.
pub longest-before_fault : (bs : List ℕ) (index len n : ℕ) → IsFirstWtf8Fault bs index len → n ≤ length bs → IsWtf8 (take n bs) → n ≤ index
longest-before_fault bs index len n fault within text =
    let ds = code_points Utf16 text.units in
    let whole : bs ≡ utf8 ds ++ drop n bs = sym (take-append-drop n bs) ∙ ap (λ xs. xs ++ drop n bs) text.bytes in
    let items = ap (wtf8_items false) whole ∙ items-units text.units (drop n bs) text.sixteen_bits in
    let beyond = prefix-of ds fault.points _ _ fault.unit (sym items ∙ fault.items) in
    let long : length (utf8 ds) ≡ n = sym (ap length text.bytes) ∙ length-take-le n bs within in
    omega (arith, long, fault.before, ap (λ cs. length (utf8 cs)) beyond.1, ap length (flat_map-append utf8_bytes ds beyond.0), length-append (utf8 ds) (utf8 beyond.0))

-- The first fault is at one index.
pub one-index : (bs : List ℕ) (i n j m : ℕ) → IsFirstWtf8Fault bs i n → IsFirstWtf8Fault bs j m → i ≡ j
one-index bs i n j m one other =
    let most = longest-before_fault bs i n j one (omega (arith, other.within)) (text-before_fault bs j m other) in
    let least = longest-before_fault bs j m i other (omega (arith, one.within)) (text-before_fault bs i n one) in
    omega (arith, most, least)

-- ---- no fault

no_contained : (cs : List ℕ) (u k : ℕ) → k < length (map Char cs) → get_or (map Char cs) k (Fault u) ≡ Fault u → ⊥
no_contained [] u k within e = omega (arith, within)
no_contained (c ∷ cs) u zero within e = cc
no_contained (c ∷ cs) u (suc k) within e = no_contained cs u k (omega (arith, within)) e

all-chars : (is : List Item) → ((u : ℕ) → ¬ (Contains is (Fault u))) → is ≡ map Char (characters is)
all-chars [] clean = refl
all-chars (Char c ∷ is) clean = ap (λ js. Char c ∷ js) (all-chars is (λ u at. clean u (suc at.0, omega (arith, at.1), at.2)))
all-chars (Fault u ∷ is) clean = absurd (clean u (0, omega arith, refl))

pub text-without_fault : (bs : List ℕ) → IsWtf8 bs ↔ ((u : ℕ) → ¬ (Contains (wtf8_items false bs) (Fault u)))
text-without_fault bs = (
  λ text u at. (let are = units-of_text bs text.units (of-text bs text) in let f = subst (λ is. Contains is (Fault u)) are.items at in no_contained are.points u f.0 f.1 f.2),
  λ clean.
      let cs = characters (wtf8_items false bs) in
      is-text bs (encode Utf16 cs) (text-of_units bs (encode Utf16 cs) (record { points = cs; items = all-chars (wtf8_items false bs) clean; units = refl })),
)

-- ---- round trips

chars-of : (cs : List ℕ) → characters (map Char cs) ≡ cs
chars-of [] = refl
chars-of (c ∷ cs) = ap (λ ds. c ∷ ds) (chars-of cs)

pub text-of_items : (bs : List ℕ) → IsWtf8 bs → wtf8 (encode Utf16 (characters (wtf8_items false bs))) ≡ bs
text-of_items bs text =
    let are = units-of_text bs text.units (of-text bs text) in
    ap (λ is. wtf8 (encode Utf16 (characters is))) are.items ∙ ap (λ cs. wtf8 (encode Utf16 cs)) (chars-of are.points) ∙ ap wtf8 are.units ∙ sym text.bytes
