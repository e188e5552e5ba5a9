-- The bytes of a surrogate, and bytes that begin with none.
use Rattle.std.proofs.Common.{◌≡◌, ◌≢◌, ℕ, ◌+◌, ◌*◌, ◌/◌, ◌%◌, ◌^◌, ◌<◌, ◌≤◌, List, [], ◌∷◌, ◌++◌, true, length, get_or, sym, ap, ◌∙◌, arith}
use Rattle.std.proofs.lemmas.Bool.Decides.{nat_tests}
use Rattle.wide_forms.specs.Searches.{is_surrogate}
use Rattle.wide_forms.specs.Utf8.{utf8_bytes, trailing_byte}
use Rattle.wide_forms.specs.Laws.Utf8.{three_bytes}
use Rattle.wide_conversions.proofs.ValidPrefixes.{bytes-three}
use Rattle.wide_schemes.specs.Layouts.{BeginsPoint}
use Rattle.wide_schemes.specs.PointRuns.{BeginsWithHalf, StartsWithNoHalf}

pub record IsHalf (u : ℕ) : Type 0 where
  pub from : 0xD800 ≤ u
  pub to : u < 0xE000

pub half-range : (u : ℕ) → is_surrogate u ≡ true → IsHalf u
half-range u half = record { from = grind (arith, nat_tests); to = grind (arith, nat_tests) }

pub half-bytes : (u : ℕ) → is_surrogate u ≡ true → utf8_bytes u ≡ (0b1110_0000 + u / 2 ^ 12) ∷ trailing_byte (u / 2 ^ 6) ∷ trailing_byte u ∷ []
half-bytes u half = (let r = half-range u half in three_bytes u (omega (arith, r.from)) (omega (arith, r.to)))

-- The bytes of a surrogate differ from other bytes in the first, in the second, or in the third.
pub none-first : (bs : List ℕ) → 0 < length bs → get_or bs 0 0 ≢ 0xED → (more : List ℕ) → StartsWithNoHalf (bs ++ more)
none-first [] some other more u rest half e = absurd (omega arith)
none-first (b ∷ bs) some other more u rest half e =
    let r = half-range u half in
    let f : b ∷ (bs ++ more) ≡ (0b1110_0000 + u / 2 ^ 12) ∷ trailing_byte (u / 2 ^ 6) ∷ trailing_byte u ∷ rest = e ∙ ap (λ xs. xs ++ rest) (half-bytes u half) in
    let head : b ≡ 0b1110_0000 + u / 2 ^ 12 = cc in
    other (omega (arith, head, r.from, r.to))

pub none-second : (bs : List ℕ) → 2 ≤ length bs → get_or bs 1 0 / 0x20 ≢ 5 → (more : List ℕ) → StartsWithNoHalf (bs ++ more)
none-second [] some other more u rest half e = absurd (omega arith)
none-second (b ∷ []) some other more u rest half e = absurd (omega arith)
none-second (b ∷ c ∷ bs) some other more u rest half e =
    let r = half-range u half in
    let f : b ∷ c ∷ (bs ++ more) ≡ (0b1110_0000 + u / 2 ^ 12) ∷ trailing_byte (u / 2 ^ 6) ∷ trailing_byte u ∷ rest = e ∙ ap (λ xs. xs ++ rest) (half-bytes u half) in
    let second : c ≡ trailing_byte (u / 2 ^ 6) = cc in
    other (omega (arith, second, r.from, r.to))

pub none-third : (bs : List ℕ) → 3 ≤ length bs → get_or bs 2 0 / 0x40 ≢ 2 → (more : List ℕ) → StartsWithNoHalf (bs ++ more)
none-third [] some other more u rest half e = absurd (omega arith)
none-third (b ∷ []) some other more u rest half e = absurd (omega arith)
none-third (b ∷ c ∷ []) some other more u rest half e = absurd (omega arith)
none-third (b ∷ c ∷ d ∷ bs) some other more u rest half e =
    let r = half-range u half in
    let f : b ∷ c ∷ d ∷ (bs ++ more) ≡ (0b1110_0000 + u / 2 ^ 12) ∷ trailing_byte (u / 2 ^ 6) ∷ trailing_byte u ∷ rest = e ∙ ap (λ xs. xs ++ rest) (half-bytes u half) in
    let third : d ≡ trailing_byte u = cc in
    other (omega (arith, third, r.from, r.to))

-- The first byte, or the first two, of a surrogate.
pub part-one : (bs : List ℕ) → length bs ≡ 1 → get_or bs 0 0 ≡ 0xED → BeginsPoint bs
part-one [] one first = absurd (omega arith)
part-one (b ∷ []) one first = record {
  code = 0xD800;
  bound = omega arith;
  more = 0xA0 ∷ 0x80 ∷ [];
  some = omega arith;
  whole = ap (λ x. x ∷ 0xA0 ∷ 0x80 ∷ []) first ∙ sym (bytes-three 0xED 0xA0 0x80 (omega arith) (omega arith) (omega arith) (omega arith) (omega arith) (omega arith) (λ e. omega (arith, e)));
}
part-one (b ∷ c ∷ bs) one first = absurd (omega arith)

pub part-two : (bs : List ℕ) → length bs ≡ 2 → get_or bs 0 0 ≡ 0xED → get_or bs 1 0 / 0x20 ≡ 5 → BeginsPoint bs
part-two [] two first second = absurd (omega arith)
part-two (b ∷ []) two first second = absurd (omega arith)
part-two (b ∷ c ∷ []) two first second = record {
  code = 0xED % 0x10 * 0x1000 + c % 0x40 * 0x40 + 0x80 % 0x40;
  bound = omega (arith, second);
  more = 0x80 ∷ [];
  some = omega arith;
  whole = ap (λ x. x ∷ c ∷ 0x80 ∷ []) first ∙ sym (bytes-three 0xED c 0x80 (omega arith) (omega arith) (omega (arith, second)) (omega (arith, second)) (omega arith) (omega arith) (λ e. omega (arith, second)));
}
part-two (b ∷ c ∷ d ∷ bs) two first second = absurd (omega arith)

-- Three bytes that are a surrogate.
pub whole-half : (bs : List ℕ) → 3 ≤ length bs → get_or bs 0 0 ≡ 0xED → get_or bs 1 0 / 0x20 ≡ 5 → get_or bs 2 0 / 0x40 ≡ 2 → BeginsWithHalf bs (0xD000 + get_or bs 1 0 % 0x40 * 0x40 + get_or bs 2 0 % 0x40)
whole-half [] some first second third = absurd (omega arith)
whole-half (b ∷ []) some first second third = absurd (omega arith)
whole-half (b ∷ c ∷ []) some first second third = absurd (omega arith)
whole-half (b ∷ c ∷ d ∷ bs) some first second third =
    let code : 0xED % 0x10 * 0x1000 + c % 0x40 * 0x40 + d % 0x40 ≡ 0xD000 + c % 0x40 * 0x40 + d % 0x40 = omega arith in
    record {
      half = grind (arith, nat_tests);
      within = omega arith;
      whole = ap (λ x. x ∷ c ∷ d ∷ bs) first ∙ ap (λ xs. xs ++ bs) (sym (bytes-three 0xED c d (omega arith) (omega arith) (omega (arith, second)) (omega (arith, second)) (omega (arith, third)) (omega (arith, third)) (λ e. omega (arith, second)))) ∙ ap (λ n. utf8_bytes n ++ bs) code;
    }
