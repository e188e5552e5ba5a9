-- The scalar values of bytes, three by three.
use Rattle.std.proofs.Common.{◌≡◌, ℕ, suc, zero, ◌+◌, ◌*◌, ◌<◌, ◌≤◌, List, [], ◌∷◌, length, get_or, take, refl, ap, ◌∙◌, sym, arith, get_or-take}
use Rattle.wide_from_utf8.specs.Decoded.{code_of_three, codes_of_three}

pub codes-three : (bs : List ℕ) (k : ℕ) → 3 * k + 2 < length bs → get_or (codes_of_three bs) k 0 ≡ code_of_three (get_or bs (3 * k) 0) (get_or bs (3 * k + 1) 0) (get_or bs (3 * k + 2) 0)
codes-three [] k within = absurd (omega arith)
codes-three (a ∷ []) k within = absurd (omega arith)
codes-three (a ∷ b ∷ []) k within = absurd (omega arith)
codes-three (a ∷ b ∷ c ∷ bs) zero within = refl
codes-three (a ∷ b ∷ c ∷ bs) (suc k) within =
    let all = a ∷ b ∷ c ∷ bs in
    let first : suc (suc (suc (3 * k))) ≡ 3 * suc k = omega arith in
    let second : suc (suc (suc (3 * k + 1))) ≡ 3 * suc k + 1 = omega arith in
    let third : suc (suc (suc (3 * k + 2))) ≡ 3 * suc k + 2 = omega arith in
    codes-three bs k (omega arith) ∙ ap (λ n. code_of_three (get_or all n 0) (get_or bs (3 * k + 1) 0) (get_or bs (3 * k + 2) 0)) first ∙ ap (λ n. code_of_three (get_or all (3 * suc k) 0) (get_or all n 0) (get_or bs (3 * k + 2) 0)) second
    ∙ ap (λ n. code_of_three (get_or all (3 * suc k) 0) (get_or all (3 * suc k + 1) 0) (get_or all n 0)) third

pub length-codes_of_three : (bs : List ℕ) (k : ℕ) → 3 * k ≤ length bs → k ≤ length (codes_of_three bs)
length-codes_of_three bs zero within = omega arith
length-codes_of_three [] (suc k) within = absurd (omega arith)
length-codes_of_three (a ∷ []) (suc k) within = absurd (omega arith)
length-codes_of_three (a ∷ b ∷ []) (suc k) within = absurd (omega arith)
length-codes_of_three (a ∷ b ∷ c ∷ bs) (suc k) within = omega (arith, length-codes_of_three bs k (omega arith))

-- The three bytes at an index, among the first sixteen.
pub three-at : (bs : List ℕ) (k : ℕ) → k < 5 → 16 ≤ length bs → code_of_three (get_or (take 16 bs) (3 * k) 0) (get_or (take 16 bs) (3 * k + 1) 0) (get_or (take 16 bs) (3 * k + 2) 0) ≡ get_or (codes_of_three bs) k 0
three-at bs k within long =
    ap (λ a. code_of_three a (get_or (take 16 bs) (3 * k + 1) 0) (get_or (take 16 bs) (3 * k + 2) 0)) (get_or-take 16 bs (3 * k) 0 (omega arith))
    ∙ ap (λ b. code_of_three (get_or bs (3 * k) 0) b (get_or (take 16 bs) (3 * k + 2) 0)) (get_or-take 16 bs (3 * k + 1) 0 (omega arith))
    ∙ ap (λ c. code_of_three (get_or bs (3 * k) 0) (get_or bs (3 * k + 1) 0) c) (get_or-take 16 bs (3 * k + 2) 0 (omega arith))
    ∙ sym (codes-three bs k (omega arith))
