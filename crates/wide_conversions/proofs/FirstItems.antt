-- The character or fault that bytes begin with: the Standard's Table 3-7 and D93b.
use Rattle.std.proofs.Common.{◌≡◌, ℕ, zero, suc, ◌+◌, ◌-◌, ◌*◌, ◌/◌, ◌%◌, ◌<◌, ◌≤◌, List, [], ◌∷◌, ◌++◌, Bool, true, false, ◌&&◌, length, get_or, take, drop, refl, sym, ap, ◌∙◌, subst, arith, ◌≢◌}
use Rattle.std.specs.Char.{IsScalar}
use Rattle.std.specs.Int.{is_in_range}
use Rattle.std.specs.Str.{StartsWithNoChar}
use Rattle.std.specs.Str.Lossy.{second_byte_max, second_byte_min, utf8_error_len, utf8_invalid_len}
use Rattle.std.proofs.lemmas.Bool.Decides.{nat_tests}
use Rattle.std.proofs.lemmas.List.{take-append-drop}
use Rattle.std.proofs.str.Faults.{Ranged, no_char}
use Rattle.wide_forms.specs.Segmentation.{Char, Fault}
use Rattle.wide_forms.specs.Utf8.{utf8_bytes}
use Rattle.wide_forms.specs.Laws.Utf8.{one_byte}
use Rattle.wide_conversions.specs.Utf8Items.{AreUtf8Items, BeginsWith, character, part, utf8_items, utf8_items-divide, utf8_items-unique}
use Rattle.wide_conversions.proofs.ValidPrefixes.{bytes-two, bytes-three, bytes-four}

-- What any bytes begin with: a character, or a fault.
begins-character : (bs : List ℕ) (c n : ℕ) → IsScalar c → take n bs ≡ utf8_bytes c → BeginsWith bs (Char c) n
begins-character bs c n scalar is =
    let rest = drop n bs in
    let whole : utf8_bytes c ++ rest ≡ bs = ap (λ xs. xs ++ rest) (sym is) ∙ take-append-drop n bs in
    utf8_items-unique bs _ _ (utf8_items-divide bs) (subst (λ xs. AreUtf8Items xs (Char c ∷ utf8_items rest)) whole (character c rest (utf8_items rest) scalar (utf8_items-divide rest)))

pub begins-part : (bs : List ℕ) (n : ℕ) → 0 < length bs → StartsWithNoChar bs → utf8_invalid_len bs ≡ n → BeginsWith bs (Fault (get_or bs 0 0)) n
begins-part bs n some none is =
    let rest = drop (utf8_invalid_len bs) bs in
    utf8_items-unique bs _ _ (utf8_items-divide bs) (part bs (utf8_items rest) some none (utf8_items-divide rest)) ∙ ap (λ k. Fault (get_or bs 0 0) ∷ utf8_items (drop k bs)) is

-- A byte that may follow the first one, as std defines it.
abbrev pub may_follow : ℕ → ℕ → Bool
may_follow x y = is_in_range 0xC2 0xF4 x && is_in_range (second_byte_min x) (second_byte_max x) y

pub record Follows (x y : ℕ) : Type 0 where
  pub first : (0xC2 ≤ x) × (x < 0xF5)
  pub second : (0x80 ≤ y) × (y < 0xC0)
  pub three : (x ≡ 0xE0 → 0xA0 ≤ y) × (x ≡ 0xED → y < 0xA0)
  pub four : (x ≡ 0xF0 → 0x90 ≤ y) × (x ≡ 0xF4 → y < 0x90)

pub follows : (x y : ℕ) → may_follow x y ≡ true → Follows x y
follows x y may = record {
  first = (grind (arith, nat_tests), grind (arith, nat_tests));
  second = (grind (arith, nat_tests), grind (arith, nat_tests));
  three = (λ is. grind (arith, nat_tests), λ is. grind (arith, nat_tests));
  four = (λ is. grind (arith, nat_tests), λ is. grind (arith, nat_tests));
}

-- The first bytes, if the last of them is not the zero that is read after the end.
prefix-one : (bs : List ℕ) → 0 < length bs → take 1 bs ≡ get_or bs 0 0 ∷ []
prefix-one [] some = absurd (omega arith)
prefix-one (x ∷ bs) some = refl

prefix-two : (bs : List ℕ) → 0 < get_or bs 1 0 → take 2 bs ≡ get_or bs 0 0 ∷ get_or bs 1 0 ∷ []
prefix-two [] some = absurd (omega arith)
prefix-two (x ∷ []) some = absurd (omega arith)
prefix-two (x ∷ y ∷ bs) some = refl

prefix-three : (bs : List ℕ) → 0 < get_or bs 2 0 → take 3 bs ≡ get_or bs 0 0 ∷ get_or bs 1 0 ∷ get_or bs 2 0 ∷ []
prefix-three [] some = absurd (omega arith)
prefix-three (x ∷ []) some = absurd (omega arith)
prefix-three (x ∷ y ∷ []) some = absurd (omega arith)
prefix-three (x ∷ y ∷ z ∷ bs) some = refl

prefix-four : (bs : List ℕ) → 0 < get_or bs 3 0 → take 4 bs ≡ get_or bs 0 0 ∷ get_or bs 1 0 ∷ get_or bs 2 0 ∷ get_or bs 3 0 ∷ []
prefix-four [] some = absurd (omega arith)
prefix-four (x ∷ []) some = absurd (omega arith)
prefix-four (x ∷ y ∷ []) some = absurd (omega arith)
prefix-four (x ∷ y ∷ z ∷ []) some = absurd (omega arith)
prefix-four (x ∷ y ∷ z ∷ w ∷ bs) some = refl

-- An index at which a byte other than zero is read lies within the bytes.
pub longer : (bs : List ℕ) (k : ℕ) → 0 < get_or bs k 0 → k < length bs
longer [] k some = absurd (omega arith)
longer (x ∷ bs) zero some = omega arith
longer (x ∷ bs) (suc k) some = omega (arith, longer bs k some)

module _ (bs : List ℕ) (some : 0 < length bs) where
  -- Bytes whose first byte is ASCII begin with this character.
  pub begins-ascii : get_or bs 0 0 < 0x80 → BeginsWith bs (Char (get_or bs 0 0)) 1
  begins-ascii low = begins-character bs (get_or bs 0 0) 1 (grind (arith, nat_tests)) (prefix-one bs some ∙ sym (one_byte (get_or bs 0 0) low))

  len-one : may_follow (get_or bs 0 0) (get_or bs 1 0) ≡ false → utf8_invalid_len bs ≡ 1
  unfolding utf8_error_len
  len-one other = grind (arith, nat_tests)

  pub unranged-one : 0x80 ≤ get_or bs 0 0 → may_follow (get_or bs 0 0) (get_or bs 1 0) ≡ false → Ranged (length bs) (get_or bs 0 0) (get_or bs 1 0) (get_or bs 2 0) (get_or bs 3 0) → ⊥
  unranged-one high other ranged = grind (arith, nat_tests, other, ranged.second high, ranged.in_three, ranged.fourth)

  pub begins-part_of_one : 0x80 ≤ get_or bs 0 0 → may_follow (get_or bs 0 0) (get_or bs 1 0) ≡ false → BeginsWith bs (Fault (get_or bs 0 0)) 1
  begins-part_of_one high other = begins-part bs 1 some (no_char bs 0 (λ ranged. unranged-one high other (subst (λ n. Ranged n (get_or bs 0 0) (get_or bs 1 0) (get_or bs 2 0) (get_or bs 3 0)) {x = length bs - 0} {y = length bs} (omega arith) ranged))) (len-one other)

  module _ (may : may_follow (get_or bs 0 0) (get_or bs 1 0) ≡ true) where
    pub begins-two : get_or bs 0 0 < 0xE0 → BeginsWith bs (Char (get_or bs 0 0 % 0x20 * 0x40 + get_or bs 1 0 % 0x40)) 2
    begins-two low =
        let f = follows (get_or bs 0 0) (get_or bs 1 0) may in
        begins-character bs _ 2 (grind (arith, nat_tests, f.first, f.second)) (prefix-two bs (omega (arith, f.second.0)) ∙ sym (bytes-two _ _ f.first.0 low f.second.0 f.second.1))

    len-two : 0xE0 ≤ get_or bs 0 0 → get_or bs 2 0 / 0x40 ≢ 2 → utf8_invalid_len bs ≡ 2
    unfolding utf8_error_len
    len-two high other = (let f = follows (get_or bs 0 0) (get_or bs 1 0) may in let long = longer bs 1 (omega (arith, f.second.0)) in grind (arith, nat_tests, long))

    pub begins-part_of_two : 0xE0 ≤ get_or bs 0 0 → get_or bs 2 0 / 0x40 ≢ 2 → BeginsWith bs (Fault (get_or bs 0 0)) 2
    begins-part_of_two high other = begins-part bs 2 some (no_char bs 0 (λ ranged. (let third = ranged.third high in other (omega (arith, third.1.0, third.1.1))))) (len-two high other)

    module _ (trails : get_or bs 2 0 / 0x40 ≡ 2) where
      pub begins-three : 0xE0 ≤ get_or bs 0 0 → get_or bs 0 0 < 0xF0 → BeginsWith bs (Char (get_or bs 0 0 % 0x10 * 0x1000 + get_or bs 1 0 % 0x40 * 0x40 + get_or bs 2 0 % 0x40)) 3
      begins-three high low =
          let f = follows (get_or bs 0 0) (get_or bs 1 0) may in
          begins-character bs _ 3 (grind (arith, nat_tests, f.second, f.three)) (prefix-three bs (omega (arith, trails)) ∙ sym (bytes-three _ _ _ high low f.second.0 f.second.1 (omega arith) (omega arith) f.three.0))

      len-three : 0xF0 ≤ get_or bs 0 0 → get_or bs 3 0 / 0x40 ≢ 2 → utf8_invalid_len bs ≡ 3
      unfolding utf8_error_len
      len-three high other = (let long = longer bs 2 (omega (arith, trails)) in grind (arith, nat_tests, long))

      pub begins-part_of_three : 0xF0 ≤ get_or bs 0 0 → get_or bs 3 0 / 0x40 ≢ 2 → BeginsWith bs (Fault (get_or bs 0 0)) 3
      begins-part_of_three high other = begins-part bs 3 some (no_char bs 0 (λ ranged. (let fourth = ranged.fourth high in other (omega (arith, fourth.1.0, fourth.1.1))))) (len-three high other)

      pub begins-four : 0xF0 ≤ get_or bs 0 0 → get_or bs 3 0 / 0x40 ≡ 2
          → BeginsWith bs (Char (get_or bs 0 0 % 8 * 0x4_0000 + get_or bs 1 0 % 0x40 * 0x1000 + get_or bs 2 0 % 0x40 * 0x40 + get_or bs 3 0 % 0x40)) 4
      begins-four high last =
          let f = follows (get_or bs 0 0) (get_or bs 1 0) may in
          begins-character bs _ 4 (grind (arith, nat_tests, f.first, f.second, f.four)) (prefix-four bs (omega (arith, last)) ∙ sym (bytes-four _ _ _ _ high f.first.1 f.second.0 f.second.1 (omega arith) (omega arith) (omega arith) (omega arith) f.four.0))
