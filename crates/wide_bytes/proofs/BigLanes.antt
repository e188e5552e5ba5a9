-- Big-endian units in SIMD lanes.
use Rattle.std.proofs.Common.{◌≡◌, ℕ, zero, suc, ◌+◌, ◌*◌, ◌<◌, ◌≤◌, List, [], ◌∷◌, ◌++◌, length, get_or, take, drop, refl, sym, ◌∙◌, subst, arith, length-take-le}
use Rattle.std.proofs.lemmas.List.{get_or_append_left, get_or-take}
use Rattle.std.proofs.lemmas.Simd.{get_or_wider}
use lib.Lanes.{Each1, digits_l, number_l}
use Rattle.wide_bytes.specs.Bytes.{unit_in}
use Rattle.wide_bytes.specs.declared.order.BoM.TheVariants.{Big}

eight-offsets : (P : ℕ → Type 0) → P 0 → P 1 → P 2 → P 3 → P 4 → P 5 → P 6 → P 7 → (k : ℕ) → k < 8 → P k
eight-offsets P a b c d e f g h zero within = a
eight-offsets P a b c d e f g h (suc zero) within = b
eight-offsets P a b c d e f g h (suc (suc zero)) within = c
eight-offsets P a b c d e f g h (suc (suc (suc zero))) within = d
eight-offsets P a b c d e f g h (suc (suc (suc (suc zero)))) within = e
eight-offsets P a b c d e f g h (suc (suc (suc (suc (suc zero))))) within = f
eight-offsets P a b c d e f g h (suc (suc (suc (suc (suc (suc zero)))))) within = g
eight-offsets P a b c d e f g h (suc (suc (suc (suc (suc (suc (suc zero))))))) within = h
eight-offsets P a b c d e f g h (suc (suc (suc (suc (suc (suc (suc (suc k)))))))) within = absurd (omega arith)

-- The first sixteen bytes, with the two bytes of each pair swapped.
abbrev swapped : List ℕ → List ℕ
swapped bytes =
    let both = take 16 bytes ++ take 16 bytes in
    get_or both 1 0 ∷ get_or both 0 0 ∷ get_or both 3 0 ∷ get_or both 2 0 ∷ get_or both 5 0 ∷ get_or both 4 0 ∷ get_or both 7 0 ∷ get_or both 6 0 ∷ get_or both 9 0 ∷ get_or both 8 0 ∷ get_or both 11 0 ∷ get_or both 10 0 ∷ get_or both 13 0 ∷ get_or both 12 0 ∷ get_or both 15 0 ∷ get_or both 14 0 ∷ []

module _ (bytes : List ℕ) (long : 16 ≤ length bytes) (fits : (i : ℕ) → get_or bytes i 0 < 256) where
  byte-at : (j : ℕ) → j < 16 → get_or (take 16 bytes ++ take 16 bytes) j 0 ≡ get_or bytes j 0
  byte-at j within = get_or_append_left (take 16 bytes) (take 16 bytes) 0 j (omega (arith, within, length-take-le 16 bytes long)) ∙ get_or-take 16 bytes j 0 within

  low : (j : ℕ) → j < 16 → get_or (take 16 bytes ++ take 16 bytes) j 0 < 256
  low j within = subst (λ b. b < 256) (sym (byte-at j within)) (fits j)

  each : Each1 (λ b. b < 256) (swapped bytes)
  each = (low 1 (omega arith), (low 0 (omega arith), (low 3 (omega arith), (low 2 (omega arith), (low 5 (omega arith), (low 4 (omega arith), (low 7 (omega arith), (low 6 (omega arith), (low 9 (omega arith), (low 8 (omega arith), (low 11 (omega arith), (low 10 (omega arith), (low 13 (omega arith), (low 12 (omega arith), (low 15 (omega arith), (low 14 (omega arith), tt))))))))))))))))

  abbrev lane : ℕ → ℕ
  lane k = get_or (digits_l 65536 8 (number_l 256 (swapped bytes))) k 0

  unit-of : (j k : ℕ) → j + 1 < 16 → k ≡ get_or (take 16 bytes ++ take 16 bytes) (j + 1) 0 + 256 * (get_or (take 16 bytes ++ take 16 bytes) j 0 + 256 * 0) → k ≡ unit_in Big (get_or bytes j 0) (get_or bytes (j + 1) 0)
  unit-of j k within is = omega (arith, is, byte-at j (omega arith), byte-at (j + 1) within)

  wide : (k : ℕ) → k < 8 → lane k ≡ number_l 256 (take 2 (drop (2 * k) (swapped bytes)))
  wide k within = get_or_wider 256 2 65536 8 (swapped bytes) k refl each within

  pub units-are : (k : ℕ) → k < 8 → lane k ≡ unit_in Big (get_or bytes (2 * k) 0) (get_or bytes (2 * k + 1) 0)
  units-are = eight-offsets (λ k. lane k ≡ unit_in Big (get_or bytes (2 * k) 0) (get_or bytes (2 * k + 1) 0))
      (unit-of 0 _ (omega arith) (wide 0 (omega arith)))
      (unit-of 2 _ (omega arith) (wide 1 (omega arith)))
      (unit-of 4 _ (omega arith) (wide 2 (omega arith)))
      (unit-of 6 _ (omega arith) (wide 3 (omega arith)))
      (unit-of 8 _ (omega arith) (wide 4 (omega arith)))
      (unit-of 10 _ (omega arith) (wide 5 (omega arith)))
      (unit-of 12 _ (omega arith) (wide 6 (omega arith)))
      (unit-of 14 _ (omega arith) (wide 7 (omega arith)))
