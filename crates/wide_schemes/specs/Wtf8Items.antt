-- Bytes as the items of WTF-8: code points, surrogates too, and faults.
use Rattle.std.proofs.Common.{◌≡◌, ℕ, zero, suc, ◌<◌, inl, inr, List, [], ◌∷◌, ◌++◌, Bool, Some, None, length, drop, refl, sym, ap, ◌∙◌, subst, arith}
use Rattle.std.specs.Prelude.{Option, slice_index, ◌&&◌, if◌then◌else◌}
use Rattle.std.specs.Str.Lossy.{utf8_invalid_len}
use Rattle.std.specs.Str.{bytes_eq}
use Rattle.std.proofs.lemmas.Bool.{cases_Bool, cases_lt}
use Rattle.std.proofs.lemmas.Slice.Eq.{bytes_eq-Decides}
use Rattle.wide_forms.specs.CodePoint.{code_point_at}
use Rattle.wide_forms.specs.Searches.{is_high, is_low}
use Rattle.wide_forms.specs.Segmentation.{Item, Char, Fault}
use Rattle.wide_forms.specs.Utf8.{utf8_bytes}
use Rattle.wide_forms.specs.Laws.Utf8.{code_point_at-bytes}
use Rattle.wide_conversions.specs.Laws.Utf8Items.{below_more, below_next, below_none, shorter-char, shorter-part}

-- A number of at most 21 bits that the Standard counts as a code point (D10).
abbrev pub IsCodePoint : ℕ → Type 0
IsCodePoint c = c < 0x11_0000

-- The code point as an item, where `after_high` says whether the code point before it is the first half of a pair. A
-- pair has four bytes, so a second half with bytes of its own after a first one is a fault.
abbrev pub point_item : Bool → ℕ → Item
point_item after_high c = if after_high && is_low c then Fault c else Char c

-- Whether the last code point is the first half of a pair, whatever faults follow it. `after_high` says whether the one
-- before the items is.
abbrev pub ends_in_high : Bool → List Item → Bool
ends_in_high after_high [] = after_high
ends_in_high after_high (Char c ∷ is) = ends_in_high (is_high c) is
ends_in_high after_high (Fault u ∷ is) = ends_in_high after_high is

-- The bytes begin with those of no code point.
abbrev pub StartsWithNoPoint : List ℕ → Type 0
StartsWithNoPoint bs = (c : ℕ) (rest : List ℕ) → IsCodePoint c → ¬ (bs ≡ utf8_bytes c ++ rest)

-- The items are the code points and the faults of the bytes, in order. A fault is an ill-formed sequence of UTF-8 that
-- is no surrogate, or the second half of a pair after the first one.
pub data AreWtf8Items : Bool → List ℕ → List Item → Type 0 where
  none : (after_high : Bool) → AreWtf8Items after_high [] []
  point : (after_high : Bool) (c : ℕ) (bs : List ℕ) (is : List Item) → IsCodePoint c → AreWtf8Items (ends_in_high after_high (point_item after_high c ∷ [])) bs is
      → AreWtf8Items after_high (utf8_bytes c ++ bs) (point_item after_high c ∷ is)
  part : (after_high : Bool) (bs : List ℕ) (is : List Item) → 0 < length bs → StartsWithNoPoint bs → AreWtf8Items after_high (drop (utf8_invalid_len bs) bs) is
      → AreWtf8Items after_high bs (Fault (slice_index bs 0) ∷ is)

-- What bytes begin with: nothing, a code point, or a fault.
data First : List ℕ → Type 0 where
  nothing : First []
  code : (c : ℕ) (rest : List ℕ) → IsCodePoint c → First (utf8_bytes c ++ rest)
  no_code : (bs : List ℕ) → 0 < length bs → StartsWithNoPoint bs → First bs

-- What was read, and what is left.
abbrev pub number_read : Option (ℕ × List ℕ) → ℕ
number_read None = 0
number_read (Some p) = p.0

abbrev pub bytes_left : Option (ℕ × List ℕ) → List ℕ
bytes_left None = []
bytes_left (Some p) = p.1

first-by : (bs : List ℕ) (c : ℕ) (rest : List ℕ) → 0 < length bs → c ≡ number_read (code_point_at bs) → rest ≡ bytes_left (code_point_at bs) → First bs
first-by bs c rest some number left = elim (cases_lt c 0x11_0000) [
  | inr above ↦ no_code bs some (λ d ds bound is. (let e = code_point_at-bytes d ds bound in let same : c ≡ d = number ∙ ap (λ xs. number_read (code_point_at xs)) is ∙ ap number_read e in omega (arith, above, bound, same)))
  | inl below ↦ elim (cases_Bool (bytes_eq bs (utf8_bytes c ++ rest))) [
    | inl same ↦ subst First (sym ((bytes_eq-Decides bs (utf8_bytes c ++ rest)).0 same)) (code c rest below)
    | inr other ↦ no_code bs some (λ d ds bound is.
        let e = code_point_at-bytes d ds bound in
        let same : c ≡ d = number ∙ ap (λ xs. number_read (code_point_at xs)) is ∙ ap number_read e in
        let beyond : rest ≡ ds = left ∙ ap (λ xs. bytes_left (code_point_at xs)) is ∙ ap bytes_left e in
        let whole : bs ≡ utf8_bytes c ++ rest = is ∙ ap (λ n. utf8_bytes n ++ ds) (sym same) ∙ ap (λ xs. utf8_bytes c ++ xs) (sym beyond) in
        let yes = (bytes_eq-Decides bs (utf8_bytes c ++ rest)).1 whole in cc)
  ]
]

first : (bs : List ℕ) → First bs
first [] = nothing
first (b ∷ bs) = first-by (b ∷ bs) (number_read (code_point_at (b ∷ bs))) (bytes_left (code_point_at (b ∷ bs))) (omega arith) refl refl

-- The bytes have a list of code points and faults.
abbrev ItemsFor : Bool → List ℕ → Type 0
ItemsFor h bs = (is : List Item) × AreWtf8Items h bs is

with_first : (h : Bool) (bs : List ℕ) → ((k : Bool) (ds : List ℕ) → length ds < length bs → ItemsFor k ds) → First bs → ItemsFor h bs
with_first h _ more nothing = ([], none h)
with_first h _ more (code c rest bound) =
    let after = ends_in_high h (point_item h c ∷ []) in
    let beyond = more after rest (shorter-char c rest) in
    (point_item h c ∷ beyond.0, point h c rest beyond.0 bound beyond.1)
with_first h _ more (no_code bs some unread) =
    let beyond = more h (drop (utf8_invalid_len bs) bs) (shorter-part bs some) in
    (Fault (slice_index bs 0) ∷ beyond.0, part h bs beyond.0 some unread beyond.1)

items_by : (steps : ℕ) (h : Bool) (bs : List ℕ) → length bs < steps → ItemsFor h bs
items_by zero h bs within = absurd (below_none (length bs) within)
items_by (suc steps) h bs within = with_first h bs (λ k ds less. items_by steps k ds (below_more (length ds) (length bs) steps less within)) (first bs)

-- The only list of code points and faults of some bytes, where `after_high` says whether the code point before them is
-- the first half of a pair. It is opaque: all that is known about it is `wtf8_items-divide`, and that there is no other.
pub wtf8_items : Bool → List ℕ → List Item
wtf8_items after_high bs = (items_by (suc (length bs)) after_high bs (below_next (length bs))).0

pub wtf8_items-divide : (h : Bool) (bs : List ℕ) → AreWtf8Items h bs (wtf8_items h bs)
unfolding wtf8_items
wtf8_items-divide h bs = (items_by (suc (length bs)) h bs (below_next (length bs))).1

-- Bytes have only one list of items.
same_items : (h : Bool) (bs ds : List ℕ) (is js : List Item) → bs ≡ ds → AreWtf8Items h bs is → AreWtf8Items h ds js → is ≡ js
same_items h bs ds is js e (none _) (none _) = refl
same_items h bs ds is js e (none _) (point _ d rest js' bound more) = absurd (omega (arith, ap length e, shorter-char d rest))
same_items h bs ds is js e (none _) (part _ ds' js' some unread more) = absurd (omega (arith, ap length e, some))
same_items h bs ds is js e (point _ c rest is' bound more) (none _) = absurd (omega (arith, ap length e, shorter-char c rest))
same_items h bs ds is js e (part _ bs' is' some unread more) (none _) = absurd (omega (arith, ap length e, some))
same_items h bs ds is js e (point _ c rest is' bound more) (point _ d rest' js' bound' more') =
    let read : Some (c, rest) ≡ Some (d, rest') = sym (code_point_at-bytes c rest bound) ∙ ap code_point_at e ∙ code_point_at-bytes d rest' bound' in
    let same : c ≡ d = ap number_read read in
    let beyond = same_items (ends_in_high h (point_item h d ∷ [])) rest rest' is' js' (ap bytes_left read) (subst (λ n. AreWtf8Items (ends_in_high h (point_item h n ∷ [])) rest is') same more) more' in
    ap (λ n. point_item h n ∷ is') same ∙ ap (λ xs. point_item h d ∷ xs) beyond
same_items h bs ds is js e (point _ c rest is' bound more) (part _ ds' js' some unread more') = absurd (unread c rest bound (sym e))
same_items h bs ds is js e (part _ bs' is' some unread more) (point _ d rest js' bound more') = absurd (unread d rest bound e)
same_items h bs ds is js e (part _ bs' is' some unread more) (part _ ds' js' some' unread' more') =
    let beyond = same_items h (drop (utf8_invalid_len bs') bs') (drop (utf8_invalid_len ds') ds') is' js' (ap (λ xs. drop (utf8_invalid_len xs) xs) e) more more' in
    ap (λ xs. Fault (slice_index xs 0) ∷ is') e ∙ ap (λ xs. Fault (slice_index ds' 0) ∷ xs) beyond

pub wtf8_items-unique : (h : Bool) (bs : List ℕ) (is : List Item) → AreWtf8Items h bs is → wtf8_items h bs ≡ is
wtf8_items-unique h bs is are = same_items h bs bs (wtf8_items h bs) is refl (wtf8_items-divide h bs) are
