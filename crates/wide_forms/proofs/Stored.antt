-- What a list holds after a block of elements was stored in it.
use Rattle.std.proofs.Common.{◌≡◌, ℕ, ◌+◌, ◌-◌, ◌≤◌, List, ◌++◌, length, take, drop, sym, ap, ◌∙◌, arith, rules, length-take, length-take-le, length-drop}
use Rattle.std.proofs.Math.Seq.{take-append-add}
use Rattle.std.proofs.lemmas.List.{take-take}
use Rattle.std.proofs.lemmas.Simd.{put_chunk_whole}
use Rattle.std.proofs.lemmas.Slice.{overwrites}
use borrow.Rule.Slice.PartMut.{put_mid}
use lib.Lanes.{put_chunk}

-- Writing as many elements over a list at an index makes its prefix end with them.
pub stored-block : (n : ℕ) (xs ys : List ℕ) (at : ℕ) → length ys ≡ n → at + n ≤ length xs → take (at + n) (put_mid at (at + n - at) xs (put_chunk 0 (take (at + n - at) (drop at xs)) ys)) ≡ take at xs ++ ys
stored-block n xs ys at long space =
    let part = take (at + n - at) (drop at xs) in
    let part_long : length part ≡ length ys = omega (arith, length-take (at + n - at) (drop at xs), length-drop at xs) in
    ap (λ l. take (at + n) (put_mid at (at + n - at) xs l)) (put_chunk_whole part ys part_long) ∙ search (rules, overwrites)

-- Of several elements that were written at once, only the first are used.
pub compressed-lead : (xs zs ds : List ℕ) (at n len : ℕ) → at ≤ length xs → len ≤ n → take (at + n) zs ≡ take at xs ++ ds → take (at + len) zs ≡ take at xs ++ take len ds
compressed-lead xs zs ds at n len space short e =
    let first : length (take at xs) ≡ at = length-take-le at xs space in
    let shorter : take (at + len) (take (at + n) zs) ≡ take (at + len) zs = take-take (at + len) (at + n) zs (omega arith) in
    sym shorter ∙ ap (λ ys. take (at + len) ys) e ∙ ap (λ m. take (m + len) (take at xs ++ ds)) (sym first) ∙ take-append-add (take at xs) ds len
