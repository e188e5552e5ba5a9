-- Tables of shuffles of sixteen bytes, and which bytes a row selects.
use Rattle.std.proofs.Common.{◌≡◌, ℕ, zero, suc, ◌+◌, ◌-◌, ◌*◌, ◌/◌, ◌<◌, ◌≤◌, ◌&&◌, Bool, true, T, ltb, ltb→lt, List, [], ◌∷◌, ◌++◌, length, get_or, map, take, drop, w8, refl, sym, ap, ◌∙◌, arith, length-take}
use Rattle.std.proofs.lemmas.List.{get_or-map, length-map}
use Rattle.std.proofs.lemmas.Simd.{Each1-get_or, get_or-swz_l_below, swz_l, length-swz_l, SwzOk, SwzOk-from_below}
use borrow.Rule.Slice.PartMut.{put_mid}
use lib.Ieee.Fits.{and_l, and_r}
use lib.Lanes.{put_chunk, Each1, all_below}
use Rattle.wide_forms.proofs.Stored.{compressed-lead, stored-block}
use Rattle.wide_forms.proofs.Tables.{same-lists}

-- ---- rows of a table

-- A row has at least sixteen numbers, and its first sixteen are below sixteen.
unfoldable pub is-row : List ℕ → Bool
is-row row = all_below 16 (take 16 row) && ltb 15 (length (take 16 row))

unfoldable pub are-rows : List (List ℕ) → Bool
are-rows [] = true
are-rows (row ∷ rows) = is-row row && are-rows rows

row-at : (rows : List (List ℕ)) (n : ℕ) → n < length rows → T (are-rows rows) → T (is-row (get_or rows n []))
unfolding are-rows
row-at [] n within h = absurd (omega arith)
row-at (row ∷ rows) zero within h = and_l (is-row row) _ h
row-at (row ∷ rows) (suc n) within h = row-at rows n (omega arith) (and_r (is-row row) _ h)

all-each : (js : List ℕ) → T (all_below 16 js) → Each1 (λ j. j < 16) js
all-each [] h = tt
all-each (j ∷ js) h = (ltb→lt j 16 (and_l _ _ h), all-each js (and_r (ltb j 16) _ h))

-- Each number of a table is below a bound.
pub each-most : (bound : ℕ) (xs : List ℕ) (n : ℕ) → 0 < bound → T (all_below bound xs) → get_or xs n 0 < bound
each-most bound [] n some h = omega arith
each-most bound (x ∷ xs) zero some h = ltb→lt x bound (and_l _ _ h)
each-most bound (x ∷ xs) (suc n) some h = each-most bound xs n some (and_r (ltb x bound) _ h)

module _ (rows : List (List ℕ)) (valid : T (are-rows rows)) (n : ℕ) (within : n < length rows) where
  row : T (is-row (get_or rows n []))
  row = row-at rows n within valid

  pub row-shuffle : SwzOk w8 16 16 0 (take 16 (get_or rows n []))
  unfolding is-row
  row-shuffle = SwzOk-from_below w8 16 1 16 0 _ refl (omega (arith, length-take 16 (get_or rows n []))) (all-each _ (and_l _ _ row))

  row-long : length (take 16 (get_or rows n [])) ≡ 16
  unfolding is-row
  row-long = omega (arith, length-take 16 (get_or rows n []), ltb→lt 15 (length (take 16 (get_or rows n []))) (and_r (all_below 16 (take 16 (get_or rows n []))) _ row))

  -- A row selects the bytes at its indices.
  pub row-picks : (bytes : List ℕ) → swz_l w8 16 bytes 0 (take 16 (get_or rows n [])) ≡ map (λ p. get_or bytes p 0) (take 16 (get_or rows n []))
  unfolding is-row
  row-picks bytes =
      let js = take 16 (get_or rows n []) in
      let f : ℕ → ℕ = λ p. get_or bytes p 0 in
      let all = length-swz_l w8 16 bytes 0 js in
      let low = all-each js (and_l _ _ row) in
      same-lists (swz_l w8 16 bytes 0 js) (map f js) (all ∙ sym (length-map js f)) (λ k inside.
      (let here : k < length js = omega (arith, inside, all) in
      let offset : ℕ = get_or js k 0 in
      let first : 16 * ((0 + k) / 16) + offset ≡ offset = omega (arith, here, row-long) in
      get_or-swz_l_below w8 16 bytes 0 js k here (Each1-get_or (λ j. j < 16) js k 0 here low) ∙ ap f first ∙ sym (get_or-map f js k 0 0 here)))

  -- Writing a shuffled vector appends the first bytes that its row selects.
  pub row-stored : (xs lanes compressed : List ℕ) (at len : ℕ) → len ≤ 16 → at + 16 ≤ length xs → take len (swz_l w8 16 lanes 0 (take 16 (get_or rows n []))) ≡ compressed
      → take (at + len) (put_mid at (at + 16 - at) xs (put_chunk 0 (take (at + 16 - at) (drop at xs)) (swz_l w8 16 lanes 0 (take 16 (get_or rows n []))))) ≡ take at xs ++ compressed
  row-stored xs lanes compressed at len few space picked =
      let ys = swz_l w8 16 lanes 0 (take 16 (get_or rows n [])) in
      let zs = put_mid at (at + 16 - at) xs (put_chunk 0 (take (at + 16 - at) (drop at xs)) ys) in
      let long : length ys ≡ 16 = length-swz_l w8 16 lanes 0 (take 16 (get_or rows n [])) ∙ row-long in
      compressed-lead xs zs ys at 16 len (omega arith) few (stored-block 16 xs ys at long space) ∙ ap (λ bs. take at xs ++ bs) picked
