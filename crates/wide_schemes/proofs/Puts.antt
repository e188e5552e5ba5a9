-- What is written at an index of a list.
use Rattle.std.proofs.Common.{◌≡◌, ℕ, ◌+◌, ◌-◌, ◌≤◌, List, ◌++◌, length, length-append, length-drop, length-take, length-take-le, take, drop, sym, ap, ◌∙◌, arith}
use Rattle.std.proofs.Math.Seq.{take-append-add}
use Rattle.std.proofs.lemmas.List.{take-append-le, take_all}
use borrow.Rule.Slice.PartMut.{post_of, put_mid}

-- What is written at an index comes after what is before it.
pub put-at : (xs ys : List ℕ) (at n k : ℕ) → at ≤ length xs → n ≤ length ys → take at xs ++ take n ys ≡ take (at + n) (put_mid at k xs ys)
put-at xs ys at n k within few =
    let first : length (take at xs) ≡ at = length-take-le at xs within in
    sym (ap (λ m. take (m + n) (put_mid at k xs ys)) (sym first) ∙ take-append-add (take at xs) (ys ++ post_of at k xs) n ∙ ap (λ zs. take at xs ++ zs) (take-append-le n ys (post_of at k xs) few))

-- Writing into a list leaves its length unchanged.
pub put-length : (xs ys : List ℕ) (at k : ℕ) → at + k ≡ length xs → length ys ≡ k → length (put_mid at k xs ys) ≡ length xs
put-length xs ys at k within long =
    let beyond : length (post_of at k xs) ≡ length (drop at xs) - k = length-drop k (drop at xs) in
    omega (arith, length-append (take at xs) (ys ++ post_of at k xs), length-append ys (post_of at k xs), length-take at xs, length-drop at xs, beyond, long)

-- What a slice from an index on is.
pub rest-slice : (bs : List ℕ) (n : ℕ) → take (length bs - n) (drop n bs) ≡ drop n bs
rest-slice bs n = take_all (length bs - n) (drop n bs) (omega (arith, length-drop n bs))
