-- Big-endian units of 32 bits in SIMD lanes.
use Rattle.std.proofs.Common.{◌≡◌, ℕ, zero, suc, ◌+◌, ◌*◌, ◌<◌, ◌≤◌, List, [], ◌∷◌, ◌++◌, length, get_or, take, drop, refl, sym, ◌∙◌, subst, arith, length-take-le}
use Rattle.std.proofs.lemmas.List.{get_or_append_left, get_or-take}
use Rattle.std.proofs.lemmas.Simd.{get_or_wider}
use lib.Lanes.{Each1, digits_l, number_l}
use Rattle.wide_bytes.specs.declared.order.BoM.TheVariants.{Big}
use Rattle.wide_schemes.specs.Layouts.{unit32_at, unit32_in}

-- The first sixteen bytes, with the four bytes of each unit in reverse.
abbrev swapped : List ℕ → List ℕ
swapped bytes =
    let both = take 16 bytes ++ take 16 bytes in
    get_or both 3 0 ∷ get_or both 2 0 ∷ get_or both 1 0 ∷ get_or both 0 0 ∷ get_or both 7 0 ∷ get_or both 6 0 ∷ get_or both 5 0 ∷ get_or both 4 0 ∷ get_or both 11 0 ∷ get_or both 10 0 ∷ get_or both 9 0 ∷ get_or both 8 0 ∷ get_or both 15 0 ∷ get_or both 14 0 ∷ get_or both 13 0 ∷ get_or both 12 0 ∷ []

module _ (bytes : List ℕ) (long : 16 ≤ length bytes) (fits : (i : ℕ) → get_or bytes i 0 < 256) where
  byte-at : (j : ℕ) → j < 16 → get_or (take 16 bytes ++ take 16 bytes) j 0 ≡ get_or bytes j 0
  byte-at j within = get_or_append_left (take 16 bytes) (take 16 bytes) 0 j (omega (arith, within, length-take-le 16 bytes long)) ∙ get_or-take 16 bytes j 0 within

  low : (j : ℕ) → j < 16 → get_or (take 16 bytes ++ take 16 bytes) j 0 < 256
  low j within = subst (λ b. b < 256) (sym (byte-at j within)) (fits j)

  each : Each1 (λ b. b < 256) (swapped bytes)
  each = (low 3 (omega arith), (low 2 (omega arith), (low 1 (omega arith), (low 0 (omega arith), (low 7 (omega arith), (low 6 (omega arith), (low 5 (omega arith), (low 4 (omega arith), (low 11 (omega arith), (low 10 (omega arith), (low 9 (omega arith), (low 8 (omega arith), (low 15 (omega arith), (low 14 (omega arith), (low 13 (omega arith), (low 12 (omega arith), tt))))))))))))))))

  abbrev lane : ℕ → ℕ
  lane k = get_or (digits_l 4294967296 4 (number_l 256 (swapped bytes))) k 0

  wide : (k : ℕ) → k < 4 → lane k ≡ number_l 256 (take 4 (drop (4 * k) (swapped bytes)))
  wide k within = get_or_wider 256 4 4294967296 4 (swapped bytes) k refl each within

  unit-of : (j k : ℕ) → j + 3 < 16 → k ≡ get_or (take 16 bytes ++ take 16 bytes) (j + 3) 0 + 256 * (get_or (take 16 bytes ++ take 16 bytes) (j + 2) 0 + 256 * (get_or (take 16 bytes ++ take 16 bytes) (j + 1) 0 + 256 * (get_or (take 16 bytes ++ take 16 bytes) j 0 + 256 * 0)))
      → k ≡ unit32_in Big (get_or bytes j 0) (get_or bytes (j + 1) 0) (get_or bytes (j + 2) 0) (get_or bytes (j + 3) 0)
  unit-of j k within is = omega (arith, is, byte-at j (omega arith), byte-at (j + 1) (omega arith), byte-at (j + 2) (omega arith), byte-at (j + 3) within)

  pub units-are : (k : ℕ) → k < 4 → lane k ≡ unit32_at Big bytes k
  units-are zero within = unit-of 0 _ (omega arith) (wide 0 (omega arith))
  units-are (suc zero) within = unit-of 4 _ (omega arith) (wide 1 (omega arith))
  units-are (suc (suc zero)) within = unit-of 8 _ (omega arith) (wide 2 (omega arith))
  units-are (suc (suc (suc zero))) within = unit-of 12 _ (omega arith) (wide 3 (omega arith))
  units-are (suc (suc (suc (suc k)))) within = absurd (omega arith)
