-- How encodings of adjacent units join, and what stops them.
use Rattle.std.proofs.Common.{◌≡◌, ℕ, zero, suc, ◌+◌, ◌-◌, ◌*◌, ◌<◌, ◌≤◌, inl, inr, List, [], ◌∷◌, ◌++◌, length, get_or, take, drop, refl, sym, ap, ◌∙◌, subst, arith, length-drop, append_assoc, drop-cons, take-add, take-append-drop}
use Rattle.std.proofs.lemmas.List.{append-nil}
use Rattle.std.proofs.lemmas.List.Concat.{flat_map-append}
use Rattle.std.specs.Char.{IsScalar}
use Rattle.std.specs.List.{All}
use Rattle.wide_forms.specs.EncodingForm.{EncodingForm, Utf16, Utf32, code_units, encode, IsHighSurrogate}
use Rattle.wide_forms.specs.Utf8.{utf8, utf8_bytes}
use Rattle.wide_forms.specs.Laws.Forms.{scalar_from, one_unit, two_units, high_of, low_of}
use Rattle.wide_utf16_to_utf8.specs.Encoded.{EncodedUnits, BeginsWithFault, AreCutShort}

-- A character below 0x1_0000 is its own unit.
pub one_unit-plain : (form : EncodingForm) (c : ℕ) → c < 0x1_0000 → code_units form c ≡ c ∷ []
one_unit-plain Utf16 c below = one_unit c below
one_unit-plain Utf32 c below = refl

pub all-append : (P : ℕ → Type 0) (xs ys : List ℕ) → All P xs → All P ys → All P (xs ++ ys)
all-append P [] ys a b k d within = b k d within
all-append P (x ∷ xs) ys a b zero d within = a 0 d (omega arith)
all-append P (x ∷ xs) ys a b (suc k) d within = all-append P xs ys (λ j e w. a (suc j) e (omega arith)) b k d (omega arith)

all-one : (P : ℕ → Type 0) (x : ℕ) → P x → All P (x ∷ [])
all-one P x p zero d within = p
all-one P x p (suc k) d within = absurd (omega arith)

-- No units have no text.
pub units-none : (text : List ℕ) → EncodedUnits [] text text
units-none text = record { cs = []; scalars = λ k d within. absurd (omega arith); units = refl; text = sym (append-nil text) }

-- The text of two lists of units, one after the other.
pub units-then : {a b s t u : List ℕ} → EncodedUnits a s t → EncodedUnits b t u → EncodedUnits (a ++ b) s u
units-then {a} {b} {s} {t} {u} x y = record {
  cs = x.cs ++ y.cs;
  scalars = all-append IsScalar x.cs y.cs x.scalars y.scalars;
  units = ap (λ us. us ++ b) x.units ∙ ap (λ us. encode Utf16 x.cs ++ us) y.units ∙ sym (flat_map-append (code_units Utf16) x.cs y.cs);
  text = y.text ∙ ap (λ bs. bs ++ utf8 y.cs) x.text ∙ append_assoc s (utf8 x.cs) (utf8 y.cs) ∙ ap (λ bs. s ++ bs) (sym (flat_map-append utf8_bytes x.cs y.cs));
}

-- The text of one unit that is a character.
pub units-one : (u : ℕ) (s t : List ℕ) → u < 0x10000 → (0xd800 ≤ u → 0xe000 ≤ u) → t ≡ s ++ utf8_bytes u → EncodedUnits (u ∷ []) s t
units-one u s t below plain text = record {
  cs = u ∷ [];
  scalars = all-one IsScalar u (scalar_from u (record { below = omega arith; no_surrogate = plain }));
  units = sym (one_unit u below) ∙ sym (append-nil (code_units Utf16 u));
  text = text ∙ ap (λ bs. s ++ bs) (sym (append-nil (utf8_bytes u)));
}

-- The text of a surrogate pair.
pub units-pair : (h l : ℕ) (s t : List ℕ) → 0xd800 ≤ h → h < 0xdc00 → 0xdc00 ≤ l → l < 0xe000 → t ≡ s ++ utf8_bytes (0x10000 + ((h - 0xd800) * 0x400 + (l - 0xdc00))) → EncodedUnits (h ∷ l ∷ []) s t
units-pair h l s t from_h to_h from_l to_l text =
    let c : ℕ = 0x10000 + ((h - 0xd800) * 0x400 + (l - 0xdc00)) in
    let high : high_of c ≡ h = omega arith in
    let low : low_of c ≡ l = omega arith in
    record {
      cs = c ∷ [];
      scalars = all-one IsScalar c (scalar_from c (record { below = omega arith; no_surrogate = λ from. omega arith }));
      units = ap (λ v. v ∷ l ∷ []) (sym high) ∙ ap (λ v. high_of c ∷ v ∷ []) (sym low) ∙ sym (two_units c (omega arith)) ∙ sym (append-nil (code_units Utf16 c));
      text = text ∙ ap (λ bs. s ++ bs) (sym (append-nil (utf8_bytes c)));
    }

-- ---- a longer prefix of the units

pub take-one : (us : List ℕ) (i : ℕ) → i < length us → take (i + 1) us ≡ take i us ++ get_or us i 0 ∷ []
take-one us i within = take-add i 1 us ∙ ap (λ vs. take i us ++ take 1 vs) (drop-cons us i 0 within)

drop-two : (us : List ℕ) (i : ℕ) → i + 2 ≤ length us → drop i us ≡ get_or us i 0 ∷ get_or us (i + 1) 0 ∷ drop (i + 2) us
drop-two us i within =
    let next : i + 1 ≡ suc i = omega arith in
    let after : i + 2 ≡ suc (suc i) = omega arith in
    drop-cons us i 0 (omega arith) ∙ ap (λ vs. get_or us i 0 ∷ vs) (drop-cons us (suc i) 0 (omega arith) ∙ rw (next, after) refl)

take-two : (us : List ℕ) (i : ℕ) → i + 2 ≤ length us → take (i + 2) us ≡ take i us ++ get_or us i 0 ∷ get_or us (i + 1) 0 ∷ []
take-two us i within = take-add i 2 us ∙ ap (λ vs. take i us ++ take 2 vs) (drop-two us i within)

pub more-unit : (us : List ℕ) (i u : ℕ) {s t v : List ℕ} → EncodedUnits (take i us) s t → i < length us → u ≡ get_or us i 0 → u < 0x10000 → (0xd800 ≤ u → 0xe000 ≤ u) → v ≡ t ++ utf8_bytes u → EncodedUnits (take (i + 1) us) s v
more-unit us i u {s} {t} {v} so_far within is below plain text =
    let more : take (i + 1) us ≡ take i us ++ u ∷ [] = take-one us i within ∙ ap (λ x. take i us ++ x ∷ []) (sym is) in
    subst (λ vs. EncodedUnits vs s v) (sym more) (units-then so_far (units-one u t v below plain text))

pub more-pair : (us : List ℕ) (i h l : ℕ) {s t v : List ℕ} → EncodedUnits (take i us) s t → i + 2 ≤ length us → h ≡ get_or us i 0 → l ≡ get_or us (i + 1) 0
    → 0xd800 ≤ h → h < 0xdc00 → 0xdc00 ≤ l → l < 0xe000 → v ≡ t ++ utf8_bytes (0x10000 + ((h - 0xd800) * 0x400 + (l - 0xdc00))) → EncodedUnits (take (i + 2) us) s v
more-pair us i h l {s} {t} {v} so_far within is_h is_l from_h to_h from_l to_l text =
    let more : take (i + 2) us ≡ take i us ++ h ∷ l ∷ [] = take-two us i within ∙ ap (λ x. take i us ++ x ∷ get_or us (i + 1) 0 ∷ []) (sym is_h) ∙ ap (λ x. take i us ++ h ∷ x ∷ []) (sym is_l) in
    subst (λ vs. EncodedUnits vs s v) (sym more) (units-then so_far (units-pair h l t v from_h to_h from_l to_l text))

-- ---- where encoding stops

pub stops-at_end : (us : List ℕ) (i : ℕ) → length us ≤ i → AreCutShort (drop i us)
stops-at_end us i over = none (drop i us) (omega (arith, length-drop i us))
  where
    none : (vs : List ℕ) → length vs ≡ 0 → AreCutShort vs
    none [] h = tt
    none (v ∷ vs) h = absurd (omega arith)

pub stops-at_high : (us : List ℕ) (i h : ℕ) → length us - i ≡ 1 → h ≡ get_or us i 0 → 0xd800 ≤ h → h < 0xdc00 → AreCutShort (drop i us)
stops-at_high us i h last is from to =
    subst (λ vs. AreCutShort vs) (sym (drop-cons us i 0 (omega arith))) (alone (get_or us i 0) (drop (suc i) us) (omega (arith, length-drop (suc i) us)) (subst (λ u. IsHighSurrogate Utf16 u) is (from, omega arith)))
  where
    alone : (u : ℕ) (vs : List ℕ) → length vs ≡ 0 → IsHighSurrogate Utf16 u → AreCutShort (u ∷ vs)
    alone u [] none high = high
    alone u (v ∷ vs) none high = absurd (omega arith)

pub stops-at_low : (us : List ℕ) (i u : ℕ) → i < length us → u ≡ get_or us i 0 → 0xdc00 ≤ u → u < 0xe000 → BeginsWithFault (drop i us) u
stops-at_low us i u within is from to = (drop (suc i) us, drop-cons us i 0 within ∙ ap (λ x. x ∷ drop (suc i) us) (sym is), inl (from, omega arith))

pub stops-at_unpaired : (us : List ℕ) (i h l : ℕ) → i + 2 ≤ length us → h ≡ get_or us i 0 → l ≡ get_or us (i + 1) 0 → 0xd800 ≤ h → h < 0xdc00 → (0xdc00 ≤ l → 0xe000 ≤ l) → BeginsWithFault (drop i us) h
stops-at_unpaired us i h l within is_h is_l from to apart = (
  l ∷ drop (i + 2) us,
  drop-two us i within ∙ ap (λ x. x ∷ get_or us (i + 1) 0 ∷ drop (i + 2) us) (sym is_h) ∙ ap (λ x. h ∷ x ∷ drop (i + 2) us) (sym is_l),
  inr ((from, omega arith), l, drop (i + 2) us, refl, λ low. omega (arith, apart low.0, low.1)),
)

-- ---- lists

-- The bytes from i on are those from i up to n, and those from n on.
pub drop-split : (i n : ℕ) (bytes : List ℕ) → i ≤ n → n ≤ length bytes → drop i bytes ≡ drop i (take n bytes) ++ drop n bytes
drop-split zero n bytes low high = sym (take-append-drop n bytes)
drop-split (suc i) n [] low high = absurd (omega arith)
drop-split (suc i) zero (b ∷ bytes) low high = absurd (omega arith)
drop-split (suc i) (suc n) (b ∷ bytes) low high = drop-split i n bytes (omega arith) (omega arith)
