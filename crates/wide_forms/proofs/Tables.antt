-- Tables of 256 rows, each of which is checked against its number by computing; and lists of eight numbers in SIMD
-- lanes.
use Rattle.std.proofs.Common.{◌≡◌, ℕ, zero, suc, ◌+◌, ◌*◌, ◌/◌, ◌%◌, ◌<◌, ◌≤◌, ◌&&◌, Bool, true, false, T, inl, inr, List, [], ◌∷◌, length, get_or, refl, ap, ◌∙◌, subst, arith}
use Rattle.std.specs.Int.RustNames.{count_ones}
use Rattle.std.proofs.Math.Facts.{eqb_yes}
use Rattle.std.proofs.lemmas.Bool.{cases_lt}
use Rattle.std.proofs.lemmas.Simd.{get_or_narrower}
use lib.Dec.{eqb, leb, leb→le}
use lib.Ieee.Fits.{and_l, and_r}
use lib.Lanes.{Each1, digits_l, number_l}

-- ---- lists of numbers

pub same-lists : (xs ys : List ℕ) → length xs ≡ length ys → ((k : ℕ) → k < length xs → get_or xs k 0 ≡ get_or ys k 0) → xs ≡ ys
same-lists [] [] long same = refl
same-lists [] (y ∷ ys) long same = absurd (omega arith)
same-lists (x ∷ xs) [] long same = absurd (omega arith)
same-lists (x ∷ xs) (y ∷ ys) long same =
    let first : x ≡ y = same 0 (omega arith) in
    ap (λ z. z ∷ xs) first ∙ ap (λ zs. y ∷ zs) (same-lists xs ys (omega arith) (λ k within. same (suc k) (omega arith)))

abbrev pub is-same : List ℕ → List ℕ → Bool
is-same [] [] = true
is-same [] (y ∷ ys) = false
is-same (x ∷ xs) [] = false
is-same (x ∷ xs) (y ∷ ys) = eqb x y && is-same xs ys

pub same-is : (xs ys : List ℕ) → T (is-same xs ys) → xs ≡ ys
same-is [] [] h = refl
same-is [] (y ∷ ys) h = absurd h
same-is (x ∷ xs) [] h = absurd h
same-is (x ∷ xs) (y ∷ ys) h = ap (λ z. z ∷ xs) (eqb_yes (and_l (eqb x y) (is-same xs ys) h)) ∙ ap (λ zs. y ∷ zs) (same-is xs ys (and_r (eqb x y) (is-same xs ys) h))

-- ---- what holds for each number below another

unfoldable pub every : (ℕ → Bool) → ℕ → Bool
every holds zero = true
every holds (suc n) = holds n && every holds n

pub every-at : (holds : ℕ → Bool) (n k : ℕ) → k < n → T (every holds n) → T (holds k)
unfolding every
every-at holds zero k within h = absurd (omega arith)
every-at holds (suc n) k within h = elim (cases_lt k n) [
  | inl below ↦ every-at holds n k below (and_r (holds n) _ h)
  | inr from ↦ (let last : n ≡ k = omega arith in subst (λ j. T (holds j)) last (and_l (holds n) _ h))
]

abbrev is-few : ℕ → Bool
is-few n = leb (count_ones n) 8

all-few : T (every is-few 256)
unfolding every count_ones
all-few = tt

pub ones-few : (n : ℕ) → n < 256 → count_ones n ≤ 8
ones-few n within = leb→le (count_ones n) 8 (every-at is-few 256 n within all-few)

pub eight : (xs : List ℕ) → length xs ≡ 8 → xs ≡ get_or xs 0 0 ∷ get_or xs 1 0 ∷ get_or xs 2 0 ∷ get_or xs 3 0 ∷ get_or xs 4 0 ∷ get_or xs 5 0 ∷ get_or xs 6 0 ∷ get_or xs 7 0 ∷ []
eight [] long = absurd (omega arith)
eight (a ∷ []) long = absurd (omega arith)
eight (a ∷ b ∷ []) long = absurd (omega arith)
eight (a ∷ b ∷ c ∷ []) long = absurd (omega arith)
eight (a ∷ b ∷ c ∷ d ∷ []) long = absurd (omega arith)
eight (a ∷ b ∷ c ∷ d ∷ e ∷ []) long = absurd (omega arith)
eight (a ∷ b ∷ c ∷ d ∷ e ∷ f ∷ []) long = absurd (omega arith)
eight (a ∷ b ∷ c ∷ d ∷ e ∷ f ∷ g ∷ []) long = absurd (omega arith)
eight (a ∷ b ∷ c ∷ d ∷ e ∷ f ∷ g ∷ h ∷ []) long = refl
eight (a ∷ b ∷ c ∷ d ∷ e ∷ f ∷ g ∷ h ∷ i ∷ xs) long = absurd (omega arith)

-- The bytes of eight lanes of 16 bits.
module _ (xs : List ℕ) (long : length xs ≡ 8) (each : Each1 (λ x. x < 65536) xs) where
  pub low-byte : (j : ℕ) → j < 8 → get_or (digits_l 256 16 (number_l 65536 xs)) (2 * j) 0 ≡ get_or xs j 0 % 0x100
  low-byte j within =
      let none : 2 * j ≡ 2 * j + 0 = omega arith in
      let is = ap (λ n. get_or (digits_l 256 16 (number_l 65536 xs)) n 0) none ∙ get_or_narrower 65536 2 256 16 xs j 0 refl each (omega (arith, long)) (omega arith) in
      omega (arith, is)

  pub high-byte : (j : ℕ) → j < 8 → get_or xs j 0 < 65536 → get_or (digits_l 256 16 (number_l 65536 xs)) (2 * j + 1) 0 ≡ get_or xs j 0 / 0x100
  high-byte j within below =
      let is = get_or_narrower 65536 2 256 16 xs j 1 refl each (omega (arith, long)) (omega arith) in
      omega (arith, is)
