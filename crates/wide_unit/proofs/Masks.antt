-- What the SIMD tests say of a unit, and what the blocks of a list say of the list.
use Rattle.std.proofs.Common.{◌≡◌, ◌≢◌, ℕ, suc, zero, ◌+◌, ◌-◌, ◌*◌, ◌/◌, ◌%◌, ◌^◌, ◌<◌, ◌≤◌, Bool, true, false, not, cond, eqb, List, [], ◌∷◌, ◌++◌, length, get_or, map, take, drop, replicate, bit_and, refl, sym, ap, ◌∙◌, subst, arith, w16, w32, Fits}
use Rattle.std.proofs.lemmas.List.{take_all}
use Rattle.std.proofs.lemmas.Bool.{cases_lt}
use Rattle.std.proofs.Common.{length-drop, length-take, get_or-take, get_or-drop, ne_eqb, ⊎_elim}
use Rattle.std.proofs.lemmas.List.Sums.{prefix_len_is, prefix_len-le-length, prefix_len_passes, prefix_len_stops}
use Rattle.std.proofs.lemmas.Simd.{leading_from_mask_l, trailing_mask_l, zip2_splat, zip2_splat_left, bitmask_splat, tops_compared, mask_l-mod, map-map, Each1-from_get_or}
use Rattle.std.proofs.lemmas.List.{length-map}
use Rattle.std.proofs.lemmas.Nat.Bits.{and_high_mask}
use lib.Lanes.{Each1, sel_l}
use lib.Dec.{ltb}
use Rattle.std.proofs.lemmas.List.Folds.{prefix_len-append}
use Rattle.std.proofs.lemmas.List.{take-append-drop}
use lib.Count.{count_trailing_zeros}
use Rattle.std.specs.Simd.Lanes.{mask_l, zip2, top}
use Rattle.std.specs.List.{prefix_len}
use Rattle.std.specs.Simd.{first_chunks}
use Rattle.wide_repair.proofs.Counts.{block_at}
use Rattle.wide_forms.specs.Searches.{first_offset, is_surrogate, is_high, is_low, is_no_scalar, is_unit}

not_true : (b : Bool) → not b ≡ true → b ≡ false
not_true true h = cc
not_true false h = refl

not_false : (b : Bool) → not b ≡ false → b ≡ true
not_false true h = refl
not_false false h = cc

module _ (p : ℕ → Bool) where
  -- None of the first m units passes the test.
  abbrev pub NoneBefore : List ℕ → ℕ → Type 0
  NoneBefore us m = (k : ℕ) → k < m → p (get_or us k 0) ≡ false

  pub offset_is : (us : List ℕ) (n : ℕ) → n ≤ length us → NoneBefore us n → (n < length us → p (get_or us n 0) ≡ true) → n ≡ first_offset p us
  offset_is us n le before here = sym (prefix_len_is (λ u. not (p u)) us n 0 le (λ k l. ap not (before k l)) (λ l. ap not (here l)))

  pub none_to_offset : (us : List ℕ) → NoneBefore us (first_offset p us)
  none_to_offset us k l = let h = prefix_len_passes (λ u. not (p u)) us k 0 l in not_true _ h

  pub offset_here : (us : List ℕ) → first_offset p us < length us → p (get_or us (first_offset p us) 0) ≡ true
  offset_here us l = let h = prefix_len_stops (λ u. not (p u)) us 0 l in not_false _ h

  pub offset_in : (us : List ℕ) → first_offset p us ≤ length us
  offset_in us = prefix_len-le-length (λ u. not (p u)) us

  -- If none of the first m units passes, and none of the next n, none of the first m + n passes.
  pub none_further : (us : List ℕ) (m n : ℕ) → NoneBefore us m → NoneBefore (drop m us) n → NoneBefore us (m + n)
  none_further us m n low high k l = ⊎_elim (λ a. low k a) (λ b.
      let e : m + (k - m) ≡ k = omega arith in
      let h = high (k - m) (omega arith) in
      subst (λ j. p (get_or us j 0) ≡ false) e (subst (λ x. p x ≡ false) (get_or-drop m us (k - m) 0) h)) (cases_lt k m)

  -- If none of the first m units passes, and the next one does not, none of the first m + 1 passes.
  pub none_more : (us : List ℕ) (m : ℕ) → NoneBefore us m → p (get_or us m 0) ≡ false → NoneBefore us (m + 1)
  none_more us m before here k l = ⊎_elim (λ a. before k a) (λ b. let e : k ≡ m = omega arith in subst (λ j. p (get_or us j 0) ≡ false) (sym e) here) (cases_lt k m)

  -- If none passes before m, the index of the first in a list is that in the rest from m on.
  pub offset_from : (us : List ℕ) (m : ℕ) → m ≤ length us → NoneBefore us m → m + first_offset p (drop m us) ≡ first_offset p us
  offset_from us m le before =
      let rest = drop m us in
      let e : length rest ≡ length us - m = length-drop m us in
      offset_is us (m + first_offset p rest)
      (let h = offset_in rest in omega (arith, e, h))
      (none_further us m (first_offset p rest) before (none_to_offset rest))
      (λ l. subst (λ x. p x ≡ true) (get_or-drop m us (first_offset p rest) 0) (offset_here rest (omega (arith, e))))

  -- None of the first m units passes, so the first that does is at m or later.
  pub offset_beyond : (us : List ℕ) (m : ℕ) → m ≤ length us → NoneBefore us m → m ≤ first_offset p us
  offset_beyond us m le before = omega (arith, offset_from us m le before)

  -- The mask is empty if none passes.
  empty_mask : (us : List ℕ) → NoneBefore us (length us) → mask_l (map p us) ≡ 0
  empty_mask [] none = refl
  empty_mask (u ∷ us) none =
      let first : p u ≡ false = none 0 (omega arith) in
      let rest : mask_l (map p us) ≡ 0 = empty_mask us (λ k l. none (suc k) (omega arith)) in
      ap (λ b. cond b 1 0 + 2 * mask_l (map p us)) first ∙ omega (arith, rest)

  -- If one of the first n units passes, the first in the list is among them.
  offset_of_prefix : (n : ℕ) (us : List ℕ) → first_offset p (take n us) < length (take n us) → first_offset p (take n us) ≡ first_offset p us
  offset_of_prefix n us below =
      let q = λ (u : ℕ). not (p u) in
      let prefix = take n us in
      let apart : eqb (prefix_len q prefix) (length prefix) ≡ false = ne_eqb _ _ (λ (e : prefix_len q prefix ≡ length prefix). omega (arith, e, below)) in
      let split = prefix_len-append q prefix (drop n us) in
      let chosen : prefix_len q (prefix ++ drop n us) ≡ prefix_len q prefix = split ∙ ap (λ b. cond b (length prefix + prefix_len q (drop n us)) (prefix_len q prefix)) apart in
      sym chosen ∙ ap (prefix_len q) (take-append-drop n us)

  -- ---- a block of n from m on

  module _ (n : ℕ) (small : n ≤ 64) where
    block_long : (us : List ℕ) (m : ℕ) → m + n ≤ length us → length (take n (drop m us)) ≡ n
    block_long us m space = simp (length-take, length-drop) (omega arith)

    none_in_block : (us : List ℕ) (m : ℕ) → NoneBefore (take n (drop m us)) n → NoneBefore (drop m us) n
    none_in_block us m h k l = subst (λ x. p x ≡ false) (get_or-take n (drop m us) k 0 l) (h k l)

    -- If the mask of a block is empty, no unit of the block passes.
    block_passed : (us : List ℕ) (m : ℕ) → m + n ≤ length us → NoneBefore us m → mask_l (map p (take n (drop m us))) ≡ 0 → NoneBefore us (m + n)
    block_passed us m space before zero_mask =
        let block = take n (drop m us) in
        let all : first_offset p block ≡ n = leading_from_mask_l p block zero_mask ∙ block_long us m space in
        none_further us m n before (none_in_block us m (λ k l. none_to_offset block k (omega (arith, all))))

    -- If the mask of a block is not empty, a unit of the block passes.
    offset_below : (block : List ℕ) → length block ≡ n → 0 < mask_l (map p block) → first_offset p block < n
    offset_below block long some = ⊎_elim (λ l. l) (λ ge. absurd (omega (arith, some, empty_mask block (λ k l. none_to_offset block k (omega (arith, ge, l, long)))))) (cases_lt (first_offset p block) n)

    -- The lowest bit of a mask is that of the first unit that passes.
    block_stops : (us : List ℕ) (m : ℕ) → m + n ≤ length us → NoneBefore us m → 0 < mask_l (map p (take n (drop m us)))
        → m + count_trailing_zeros 64 (mask_l (map p (take n (drop m us)))) ≡ first_offset p us
    block_stops us m space before some =
        let block = take n (drop m us) in
        let long = block_long us m space in
        let lowest : count_trailing_zeros 64 (mask_l (map p block)) ≡ first_offset p block = trailing_mask_l p 64 block (omega (arith, long)) some in
        let below : first_offset p block < n = offset_below block long some in
        let here : first_offset p block ≡ first_offset p (drop m us) = offset_of_prefix n (drop m us) (omega (arith, below, long)) in
        ap (λ j. m + j) (lowest ∙ here) ∙ offset_from us m (omega arith) before

    -- ---- the last block, which may overlap the one before it

    module _ (us : List ℕ) (m k bits : ℕ) (last : m + n ≡ length us) (whole : k ≡ n) (mask : bits ≡ mask_l (map p (take k (drop m us)))) (before : m ≤ first_offset p us) where
      last-mask : bits ≡ mask_l (map p (take n (drop m us)))
      last-mask = mask ∙ ap (λ j. mask_l (map p (take j (drop m us)))) whole

      earlier : NoneBefore us m
      earlier j l = none_to_offset us j (omega (arith, l, before))

      pub last_passed : bits ≡ 0 → length us ≡ first_offset p us
      last_passed clear =
          let all : NoneBefore us (length us) = subst (λ j. NoneBefore us j) last (block_passed us m (omega (arith, last)) earlier (sym last-mask ∙ clear)) in
          offset_is us (length us) (omega arith) all (λ l. absurd (omega arith))

      pub last_stops : bits ≢ 0 → m + count_trailing_zeros 64 bits ≡ first_offset p us
      last_stops set = ap (λ b. m + count_trailing_zeros 64 b) last-mask ∙ block_stops us m (omega (arith, last)) earlier (omega (arith, last-mask, set))

    -- ---- the steps of a loop over the blocks

    module _ (us : List ℕ) (blocks : List (List ℕ)) (prefix : blocks ≡ first_chunks n (length us / n) us) (count : length blocks ≡ length us / n) (fits : length us / n * n ≤ length us) where
      block_is : (i : ℕ) (d : List ℕ) → i < length blocks → get_or blocks i d ≡ take n (drop (i * n) us)
      block_is i d l = ap (λ bs. get_or bs i d) prefix ∙ block_at n (length us / n) i us d (omega (arith, count, l))

      pub hit : (i : ℕ) (d : List ℕ) (bits : ℕ) → i < length blocks → i * n + n ≤ length us → bits ≡ mask_l (map p (get_or blocks i d)) → bits ≢ 0 → NoneBefore us (i * n) → i * n + count_trailing_zeros 64 bits ≡ first_offset p us
      hit i d bits l space e set before =
          let mask : bits ≡ mask_l (map p (take n (drop (i * n) us))) = e ∙ ap (λ bs. mask_l (map p bs)) (block_is i d l) in
          ap (λ b. i * n + count_trailing_zeros 64 b) mask ∙ block_stops us (i * n) space before (omega (arith, mask, set))

      pub miss : (i : ℕ) (d : List ℕ) (bits : ℕ) → i < length blocks → i * n + n ≤ length us → i * n + n ≡ (i + 1) * n → bits ≡ mask_l (map p (get_or blocks i d)) → bits ≡ 0 → NoneBefore us (i * n) → NoneBefore us ((i + 1) * n)
      miss i d bits l space next e clear before =
          let mask : mask_l (map p (take n (drop (i * n) us))) ≡ 0 = sym (e ∙ ap (λ bs. mask_l (map p bs)) (block_is i d l)) ∙ clear in
          subst (λ m. NoneBefore us m) next (block_passed us (i * n) space before mask)

-- ---- what the lanes test

same_tests : (P : ℕ → Type 0) (t p : ℕ → Bool) → ((u : ℕ) → P u → t u ≡ p u) → (us : List ℕ) → Each1 P us → map t us ≡ map p us
same_tests P t p same [] h = refl
same_tests P t p same (u ∷ us) h = rw (same u h.0, same_tests P t p same us h.1) refl

-- A 16-bit unit is a surrogate by its upper bits.
surrogate_test : (u : ℕ) → u < 2 ^ 16 → eqb (bit_and u 0xf800) 0xd800 ≡ is_surrogate u
surrogate_test u l = let e : bit_and u 0xf800 ≡ u / 2 ^ 11 * 2 ^ 11 = and_high_mask 16 11 (omega arith) u l in rw e (grind arith)

bits16 : (us : List ℕ) → length us ≡ 16 → Each1 (λ u. u < 2 ^ 16) us
    → mask_l (map (top 15) (zip2 (λ a b. cond (eqb a b) (2 ^ 16 - 1) 0) (zip2 bit_and us (replicate 16 0xf800)) (replicate 16 0xd800))) % 2 ^ 64 ≡ mask_l (map is_surrogate us)
bits16 us long below =
    let anded : zip2 bit_and us (replicate 16 0xf800) ≡ map (λ x. bit_and x 0xf800) us = zip2_splat bit_and us 16 0xf800 long in
    let tested = bitmask_splat w16 eqb (map (λ x. bit_and x 0xf800) us) 16 0xd800 (simp length-map long) (omega arith) in
    let tests : map (λ x. eqb x 0xd800) (map (λ x. bit_and x 0xf800) us) ≡ map is_surrogate us = map-map (λ x. eqb x 0xd800) (λ x. bit_and x 0xf800) us ∙ same_tests (λ u. u < 2 ^ 16) (λ u. eqb (bit_and u 0xf800) 0xd800) is_surrogate surrogate_test us below in
    ap (λ (vs : List ℕ). mask_l (map (top 15) (zip2 (λ a b. cond (eqb a b) (2 ^ 16 - 1) 0) vs (replicate 16 0xd800))) % 2 ^ 64) anded
    ∙ (tested ∙ ap mask_l tests)

pub surrogate_block : (us : List ℕ) → length us ≡ 16 → ((k : ℕ) → Fits w16 (get_or us k 0))
    → mask_l (map (top 15) (zip2 (λ a b. cond (eqb a b) (2 ^ 16 - 1) 0) (zip2 bit_and (take 16 us) (replicate 16 0xf800)) (replicate 16 0xd800))) % 2 ^ 64 ≡ mask_l (map is_surrogate us)
surrogate_block us long fits =
    let whole : take 16 us ≡ us = take_all 16 us (omega arith) in
    ap (λ (vs : List ℕ). mask_l (map (top 15) (zip2 (λ a b. cond (eqb a b) (2 ^ 16 - 1) 0) (zip2 bit_and vs (replicate 16 0xf800)) (replicate 16 0xd800))) % 2 ^ 64) whole
    ∙ bits16 us long (Each1-from_get_or (λ u. u < 2 ^ 16) us 0 (λ i _. (fits i).fits))

-- Whether a 32-bit unit is no scalar value, as the lanes test it.
abbrev pub surrogate32 : ℕ → Bool
surrogate32 u = eqb (bit_and u 0xffff_f800) 0xd800

raised : (t : ℕ → Bool) (m n : ℕ) (us : List ℕ) → length us ≡ n → sel_l (map t us) (replicate n m) us ≡ map (λ u. cond (t u) m u) us
raised t m zero [] long = refl
raised t m (suc n) [] long = absurd (omega arith)
raised t m zero (u ∷ us) long = absurd (omega arith)
raised t m (suc n) (u ∷ us) long = ap (λ vs. cond (t u) m u ∷ vs) (raised t m n us (omega arith))

no_scalar_test : (u : ℕ) → u < 2 ^ 32 → ltb 0x10_ffff (cond (surrogate32 u) 0xffff_ffff u) ≡ is_no_scalar u
no_scalar_test u l = let e : bit_and u 0xffff_f800 ≡ u / 2 ^ 11 * 2 ^ 11 = and_high_mask 32 11 (omega arith) u l in rw e (grind arith)

abbrev pub bits32 : List ℕ → ℕ
bits32 us =
    mask_l (map (top 31) (zip2 (λ a b. cond (ltb a b) (2 ^ 32 - 1) 0) (replicate 8 0x10_ffff)
    (sel_l (map (top 31) (zip2 (λ a b. cond (eqb a b) (2 ^ 32 - 1) 0) (zip2 bit_and us (replicate 8 0xffff_f800)) (replicate 8 0xd800))) (replicate 8 0xffff_ffff) us))) % 2 ^ 64

bits32-are : (us : List ℕ) → length us ≡ 8 → Each1 (λ u. u < 2 ^ 32) us → bits32 us ≡ mask_l (map is_no_scalar us)
bits32-are us long below =
    let chosen = λ (u : ℕ). cond (surrogate32 u) 0xffff_ffff u in
    let anded : zip2 bit_and us (replicate 8 0xffff_f800) ≡ map (λ x. bit_and x 0xffff_f800) us = zip2_splat bit_and us 8 0xffff_f800 long in
    let tops : map (top 31) (zip2 (λ a b. cond (eqb a b) (2 ^ 32 - 1) 0) (zip2 bit_and us (replicate 8 0xffff_f800)) (replicate 8 0xd800)) ≡ map surrogate32 us =
    tops_compared w32 eqb (zip2 bit_and us (replicate 8 0xffff_f800)) (replicate 8 0xd800)
    ∙ ap (λ vs. zip2 eqb vs (replicate 8 0xd800)) anded
    ∙ zip2_splat eqb (map (λ x. bit_and x 0xffff_f800) us) 8 0xd800 (simp length-map long)
    ∙ map-map (λ x. eqb x 0xd800) (λ x. bit_and x 0xffff_f800) us in
    let lanes : sel_l (map (top 31) (zip2 (λ a b. cond (eqb a b) (2 ^ 32 - 1) 0) (zip2 bit_and us (replicate 8 0xffff_f800)) (replicate 8 0xd800))) (replicate 8 0xffff_ffff) us ≡ map chosen us =
    ap (λ ts. sel_l ts (replicate 8 0xffff_ffff) us) tops ∙ raised surrogate32 0xffff_ffff 8 us long in
    let compared : map (top 31) (zip2 (λ a b. cond (ltb a b) (2 ^ 32 - 1) 0) (replicate 8 0x10_ffff) (map chosen us)) ≡ map is_no_scalar us =
    tops_compared w32 ltb (replicate 8 0x10_ffff) (map chosen us)
    ∙ zip2_splat_left ltb 0x10_ffff 8 (map chosen us) (simp length-map long)
    ∙ map-map (λ y. ltb 0x10_ffff y) chosen us
    ∙ same_tests (λ u. u < 2 ^ 32) (λ u. ltb 0x10_ffff (chosen u)) is_no_scalar no_scalar_test us below in
    ap (λ vs. mask_l (map (top 31) (zip2 (λ a b. cond (ltb a b) (2 ^ 32 - 1) 0) (replicate 8 0x10_ffff) vs)) % 2 ^ 64) lanes
    ∙ ap (λ ts. mask_l ts % 2 ^ 64) compared
    ∙ mask_l-mod (map is_no_scalar us) 64 (simp length-map (omega (arith, long)))

pub no_scalar_block : (us : List ℕ) → length us ≡ 8 → ((k : ℕ) → Fits w32 (get_or us k 0)) → bits32 (take 8 us) ≡ mask_l (map is_no_scalar us)
no_scalar_block us long fits =
    let whole : take 8 us ≡ us = take_all 8 us (omega arith) in
    ap bits32 whole ∙ bits32-are us long (Each1-from_get_or (λ u. u < 2 ^ 32) us 0 (λ i _. (fits i).fits))

-- The mask of the 16-bit units that equal one unit.
pub same_block16 : (v : ℕ) (us : List ℕ) → length us ≡ 16 → mask_l (map (top 15) (zip2 (λ a b. cond (eqb a b) (2 ^ 16 - 1) 0) (take 16 us) (replicate 16 v))) % 2 ^ 64 ≡ mask_l (map (is_unit v) us)
same_block16 v us long =
    let whole : take 16 us ≡ us = take_all 16 us (omega arith) in
    ap (λ vs. mask_l (map (top 15) (zip2 (λ a b. cond (eqb a b) (2 ^ 16 - 1) 0) vs (replicate 16 v))) % 2 ^ 64) whole ∙ bitmask_splat w16 eqb us 16 v long (omega arith)

-- The mask of the 32-bit units that equal one unit.
pub same_block32 : (v : ℕ) (us : List ℕ) → length us ≡ 8 → mask_l (map (top 31) (zip2 (λ a b. cond (eqb a b) (2 ^ 32 - 1) 0) (take 8 us) (replicate 8 v))) % 2 ^ 64 ≡ mask_l (map (is_unit v) us)
same_block32 v us long =
    let whole : take 8 us ≡ us = take_all 8 us (omega arith) in
    ap (λ vs. mask_l (map (top 31) (zip2 (λ a b. cond (eqb a b) (2 ^ 32 - 1) 0) vs (replicate 8 v))) % 2 ^ 64) whole ∙ bitmask_splat w32 eqb us 8 v long (omega arith)

-- The masks of the high and of the low surrogates of a block.
masked_bits16 : (c : ℕ) (p : ℕ → Bool) → ((u : ℕ) → u < 2 ^ 16 → eqb (bit_and u 0xfc00) c ≡ p u) → (us : List ℕ) → length us ≡ 16 → Each1 (λ u. u < 2 ^ 16) us
    → mask_l (map (top 15) (zip2 (λ a b. cond (eqb a b) (2 ^ 16 - 1) 0) (zip2 bit_and us (replicate 16 0xfc00)) (replicate 16 c))) % 2 ^ 64 ≡ mask_l (map p us)
masked_bits16 c p same us long below =
    let anded : zip2 bit_and us (replicate 16 0xfc00) ≡ map (λ x. bit_and x 0xfc00) us = zip2_splat bit_and us 16 0xfc00 long in
    let tested = bitmask_splat w16 eqb (map (λ x. bit_and x 0xfc00) us) 16 c (simp length-map long) (omega arith) in
    let tests : map (λ x. eqb x c) (map (λ x. bit_and x 0xfc00) us) ≡ map p us = map-map (λ x. eqb x c) (λ x. bit_and x 0xfc00) us ∙ same_tests (λ u. u < 2 ^ 16) (λ u. eqb (bit_and u 0xfc00) c) p same us below in
    ap (λ (vs : List ℕ). mask_l (map (top 15) (zip2 (λ a b. cond (eqb a b) (2 ^ 16 - 1) 0) vs (replicate 16 c))) % 2 ^ 64) anded
    ∙ (tested ∙ ap mask_l tests)

masked_block16 : (c : ℕ) (p : ℕ → Bool) → ((u : ℕ) → u < 2 ^ 16 → eqb (bit_and u 0xfc00) c ≡ p u) → (us : List ℕ) → length us ≡ 16 → ((k : ℕ) → Fits w16 (get_or us k 0))
    → mask_l (map (top 15) (zip2 (λ a b. cond (eqb a b) (2 ^ 16 - 1) 0) (zip2 bit_and (take 16 us) (replicate 16 0xfc00)) (replicate 16 c))) % 2 ^ 64 ≡ mask_l (map p us)
masked_block16 c p same us long fits =
    let whole : take 16 us ≡ us = take_all 16 us (omega arith) in
    ap (λ (vs : List ℕ). mask_l (map (top 15) (zip2 (λ a b. cond (eqb a b) (2 ^ 16 - 1) 0) (zip2 bit_and vs (replicate 16 0xfc00)) (replicate 16 c))) % 2 ^ 64) whole
    ∙ masked_bits16 c p same us long (Each1-from_get_or (λ u. u < 2 ^ 16) us 0 (λ i _. (fits i).fits))

high_test : (u : ℕ) → u < 2 ^ 16 → eqb (bit_and u 0xfc00) 0xd800 ≡ is_high u
high_test u l = let e : bit_and u 0xfc00 ≡ u / 2 ^ 10 * 2 ^ 10 = and_high_mask 16 10 (omega arith) u l in rw e (grind arith)

low_test : (u : ℕ) → u < 2 ^ 16 → eqb (bit_and u 0xfc00) 0xdc00 ≡ is_low u
low_test u l = let e : bit_and u 0xfc00 ≡ u / 2 ^ 10 * 2 ^ 10 = and_high_mask 16 10 (omega arith) u l in rw e (grind arith)

-- The mask of the high surrogates of a block.
pub high_block : (us : List ℕ) → length us ≡ 16 → ((k : ℕ) → Fits w16 (get_or us k 0))
    → mask_l (map (top 15) (zip2 (λ a b. cond (eqb a b) (2 ^ 16 - 1) 0) (zip2 bit_and (take 16 us) (replicate 16 0xfc00)) (replicate 16 0xd800))) % 2 ^ 64 ≡ mask_l (map is_high us)
high_block = masked_block16 0xd800 is_high high_test

-- The mask of the low surrogates of a block.
pub low_block : (us : List ℕ) → length us ≡ 16 → ((k : ℕ) → Fits w16 (get_or us k 0))
    → mask_l (map (top 15) (zip2 (λ a b. cond (eqb a b) (2 ^ 16 - 1) 0) (zip2 bit_and (take 16 us) (replicate 16 0xfc00)) (replicate 16 0xdc00))) % 2 ^ 64 ≡ mask_l (map is_low us)
low_block = masked_block16 0xdc00 is_low low_test

-- Equal masks are equal lanes.
pub same_lanes : (p q : ℕ → Bool) (us vs : List ℕ) → length us ≡ length vs → mask_l (map p us) ≡ mask_l (map q vs) → (k : ℕ) → k < length us → p (get_or us k 0) ≡ q (get_or vs k 0)
same_lanes p q [] vs long e k l = absurd (omega arith)
same_lanes p q (u ∷ us) [] long e k l = absurd (omega arith)
same_lanes p q (u ∷ us) (v ∷ vs) long e zero l = low_bit (p u) (q v) _ _ e
  where
    low_bit : (a b : Bool) (m n : ℕ) → cond {A = ℕ} a 1 0 + 2 * m ≡ cond {A = ℕ} b 1 0 + 2 * n → a ≡ b
    low_bit true true m n e = refl
    low_bit false false m n e = refl
    low_bit true false m n e = absurd (omega (arith, e))
    low_bit false true m n e = absurd (omega (arith, e))
same_lanes p q (u ∷ us) (v ∷ vs) long e (suc k) l = same_lanes p q us vs (omega arith) (other_bits (p u) (q v) _ _ e) k (omega arith)
  where
    other_bits : (a b : Bool) (m n : ℕ) → cond {A = ℕ} a 1 0 + 2 * m ≡ cond {A = ℕ} b 1 0 + 2 * n → m ≡ n
    other_bits true true m n e = omega (arith, e)
    other_bits false false m n e = omega (arith, e)
    other_bits true false m n e = absurd (omega (arith, e))
    other_bits false true m n e = absurd (omega (arith, e))
