-- What writing bytes at an offset of a list does to its prefix.
use Rattle.std.proofs.Common.{◌≡◌, ℕ, inl, inr, ◌+◌, ◌-◌, ◌*◌, ◌/◌, ◌%◌, ◌^◌, ◌<◌, ◌≤◌, List, [], ◌∷◌, ◌++◌, length, take, set, sym, ap, ◌∙◌, arith, length-set, append_assoc}
use Rattle.std.proofs.lemmas.Bool.{cases_lt}
use Rattle.std.proofs.lemmas.Grind.{common_steps}
use Rattle.wide_forms.proofs.Stored.{compressed-lead}
use Rattle.wide_forms.specs.Utf8.{utf8_bytes, trailing_byte}
use Rattle.wide_utf16_to_utf8.specs.Encoded.{IsWordOf, high_word, low_word}
use Rattle.wide_forms.specs.Laws.Utf8.{one_byte, two_bytes, three_bytes, four_bytes}

pub stored_one : (xs : List ℕ) (at a : ℕ) → at < length xs → take (at + 1) (set xs at a) ≡ take at xs ++ a ∷ []
stored_one xs at a space = grind (arith, common_steps)

pub stored_two : (xs : List ℕ) (at a b : ℕ) → at + 1 < length xs → take (at + 2) (set (set xs at a) (at + 1) b) ≡ take at xs ++ a ∷ b ∷ []
stored_two xs at a b space =
    let longer : at + 2 ≡ at + 1 + 1 = omega arith in
    let last : take (at + 1 + 1) (set (set xs at a) (at + 1) b) ≡ take (at + 1) (set xs at a) ++ b ∷ [] = stored_one (set xs at a) (at + 1) b (omega (arith, length-set {A = ℕ})) in
    ap (λ n. take n (set (set xs at a) (at + 1) b)) longer ∙ last ∙ ap (λ ys. ys ++ b ∷ []) (stored_one xs at a (omega arith)) ∙ append_assoc (take at xs) (a ∷ []) (b ∷ [])

pub stored_three : (xs : List ℕ) (at a b d : ℕ) → at + 2 < length xs → take (at + 3) (set (set (set xs at a) (at + 1) b) (at + 2) d) ≡ take at xs ++ a ∷ b ∷ d ∷ []
stored_three xs at a b d space =
    let ys = set (set xs at a) (at + 1) b in
    let longer : at + 3 ≡ at + 2 + 1 = omega arith in
    let last : take (at + 2 + 1) (set ys (at + 2) d) ≡ take (at + 2) ys ++ d ∷ [] = stored_one ys (at + 2) d (omega (arith, length-set {A = ℕ})) in
    ap (λ n. take n (set ys (at + 2) d)) longer ∙ last ∙ ap (λ zs. zs ++ d ∷ []) (stored_two xs at a b (omega arith)) ∙ append_assoc (take at xs) (a ∷ b ∷ []) (d ∷ [])

pub stored_four : (xs : List ℕ) (at a b d e : ℕ) → at + 3 < length xs → take (at + 4) (set (set (set (set xs at a) (at + 1) b) (at + 2) d) (at + 3) e) ≡ take at xs ++ a ∷ b ∷ d ∷ e ∷ []
stored_four xs at a b d e space =
    let ys = set (set (set xs at a) (at + 1) b) (at + 2) d in
    let longer : at + 4 ≡ at + 3 + 1 = omega arith in
    let last : take (at + 3 + 1) (set ys (at + 3) e) ≡ take (at + 3) ys ++ e ∷ [] = stored_one ys (at + 3) e (omega (arith, length-set {A = ℕ})) in
    ap (λ n. take n (set ys (at + 3) e)) longer ∙ last ∙ ap (λ zs. zs ++ e ∷ []) (stored_three xs at a b d (omega arith)) ∙ append_assoc (take at xs) (a ∷ b ∷ d ∷ []) (e ∷ [])

-- The bytes of a unit that is a character.
module _ (xs : List ℕ) (at u : ℕ) where
  -- A unit below 80 is stored as one byte.
  pub put_one : at < length xs → u < 0x80 → take (at + 1) (set xs at u) ≡ take at xs ++ utf8_bytes u
  put_one space below = stored_one xs at u space ∙ ap (λ bs. take at xs ++ bs) (sym (one_byte u below))

  -- A unit from 80 up to 7FF is stored as two bytes.
  pub put_two : at + 1 < length xs → 0x80 ≤ u → u < 0x800 → take (at + 2) (set (set xs at (192 + u / 64)) (at + 1) (128 + u % 64)) ≡ take at xs ++ utf8_bytes u
  put_two space from below = stored_two xs at _ _ space ∙ ap (λ bs. take at xs ++ bs) (sym (two_bytes u from below))

  -- A unit from 800 on is stored as three bytes.
  pub put_three : at + 2 < length xs → 0x800 ≤ u → u < 0x1_0000 → take (at + 3) (set (set (set xs at (224 + u / 4096)) (at + 1) (128 + u / 64 % 64)) (at + 2) (128 + u % 64)) ≡ take at xs ++ utf8_bytes u
  put_three space from below = stored_three xs at _ _ _ space ∙ ap (λ bs. take at xs ++ bs) (sym (three_bytes u from below))

pub list4 : (a b d e a' b' d' e' : ℕ) → a ≡ a' → b ≡ b' → d ≡ d' → e ≡ e' → a ∷ b ∷ d ∷ e ∷ [] ≡ a' ∷ b' ∷ d' ∷ e' ∷ []
list4 a b d e a' b' d' e' p q r s = cc

pub pair_bytes : (h l : ℕ) → 0xd800 ≤ h → h < 0xdc00 → 0xdc00 ≤ l → l < 0xe000
    → (240 + (h - 55296 + 64) / 256) ∷ (128 + (h - 55296 + 64) / 4 % 64) ∷ (128 + (h - 55296 + 64) % 4 * 16 + (l - 56320) / 64) ∷ (128 + (l - 56320) % 64) ∷ [] ≡ utf8_bytes (0x10000 + ((h - 0xd800) * 0x400 + (l - 0xdc00)))
pair_bytes h l from_h to_h from_l to_l =
    let c : ℕ = 0x10000 + ((h - 0xd800) * 0x400 + (l - 0xdc00)) in
    list4 _ _ _ _ (240 + c / 2 ^ 18) (trailing_byte (c / 2 ^ 12)) (trailing_byte (c / 2 ^ 6)) (trailing_byte c) (omega arith) (omega arith) (omega arith) (omega arith) ∙ sym (four_bytes c (omega arith))

pub pair-word : (h l word : ℕ) → 0xd800 ≤ h → h < 0xdc00 → 0xdc00 ≤ l → l < 0xe000 → word ≡ high_word h + low_word h l * 0x10000
    → (word % 0x100) ∷ (word / 0x100 % 0x100) ∷ (word / 0x10000 % 0x100) ∷ (word / 0x1000000) ∷ [] ≡ utf8_bytes (0x10000 + ((h - 0xd800) * 0x400 + (l - 0xdc00)))
pair-word h l word from_h to_h from_l to_l is = list4 _ _ _ _ _ _ _ _ (omega arith) (omega arith) (omega arith) (omega arith) ∙ pair_bytes h l from_h to_h from_l to_l

-- ---- four bytes at once, of which the first are used

pub list2 : (a b a' b' : ℕ) → a ≡ a' → b ≡ b' → a ∷ b ∷ [] ≡ a' ∷ b' ∷ []
list2 a b a' b' p q = cc

pub list3 : (a b d a' b' d' : ℕ) → a ≡ a' → b ≡ b' → d ≡ d' → a ∷ b ∷ d ∷ [] ≡ a' ∷ b' ∷ d' ∷ []
list3 a b d a' b' d' p q r = cc

lead-is : (u word len : ℕ) → u < 0x10000 → IsWordOf u word len → take len ((word % 0x100) ∷ (word / 0x100 % 0x100) ∷ (word / 0x10000 % 0x100) ∷ (word / 0x1000000) ∷ []) ≡ utf8_bytes u
lead-is u word len below w =
    let ds = (word % 0x100) ∷ (word / 0x100 % 0x100) ∷ (word / 0x10000 % 0x100) ∷ (word / 0x1000000) ∷ [] in
    elim (cases_lt u 0x80) [
      | inl low ↦ (let e = w.one low in ap (λ n. take n ds) e.1 ∙ ap (λ x. x ∷ []) e.0 ∙ sym (one_byte u low))
      | inr from ↦ elim (cases_lt u 0x800) [
        | inl low ↦ (let e = w.two from low in ap (λ n. take n ds) e.1 ∙ list2 _ _ _ _ (omega (arith, e.0)) (omega (arith, e.0)) ∙ sym (two_bytes u from low))
        | inr from_800 ↦ (let e = w.three from_800 in ap (λ n. take n ds) e.1 ∙ list3 _ _ _ _ _ _ (omega (arith, e.0)) (omega (arith, e.0)) (omega (arith, e.0)) ∙ sym (three_bytes u from_800 below))
      ]
    ]

pub word-stored : (xs zs : List ℕ) (at u word len : ℕ) → at ≤ length xs → u < 0x10000 → IsWordOf u word len
    → take (at + 4) zs ≡ take at xs ++ (word % 0x100) ∷ (word / 0x100 % 0x100) ∷ (word / 0x10000 % 0x100) ∷ (word / 0x1000000) ∷ [] → take (at + len) zs ≡ take at xs ++ utf8_bytes u
word-stored xs zs at u word len space below w e = compressed-lead xs zs _ at 4 len space (short u word len w) e ∙ ap (λ bs. take at xs ++ bs) (lead-is u word len below w)
  where
    short : (u word len : ℕ) → IsWordOf u word len → len ≤ 4
    short u word len w = elim (cases_lt u 0x80) [ inl low ↦ omega (arith, (w.one low).1) | inr from ↦ elim (cases_lt u 0x800) [ inl low ↦ omega (arith, (w.two from low).1) | inr from_800 ↦ omega (arith, (w.three from_800).1) ] ]
