-- Elements that are moved block by block.
use Rattle.std.proofs.Common.{◌≡◌, ℕ, suc, ◌+◌, ◌-◌, ◌<◌, ◌≤◌, get_or, get_or-drop, ◌++◌, List, length, take, drop, sym, ap, ◌∙◌, arith, refl, length-drop, length-append}
use Rattle.std.proofs.lemmas.List.{append_assoc, take-append-le, take-take, drop-drop, length-take-le, drop-take}
use Rattle.std.proofs.lemmas.List.Edits.{length-paste}
use Rattle.std.specs.List.{copy_within}
use Rattle.std.proofs.Math.ListN.{set}
use Rattle.std.proofs.Math.Seq.{paste, paste-suc, take-add, drop-append-add, take-append_seam, drop-append_seam}

module _ {A : Type 0} where
  -- A list that was pasted into begins with the elements before the pasted ones.
  take-before : (a n : ℕ) (xs ys : List A) → a ≤ n → n ≤ length xs → take a (take n xs ++ ys) ≡ take a xs
  take-before a n xs ys le within = take-append-le a (take n xs) ys (omega (arith, le, within, length-take-le n xs within)) ∙ take-take a n xs le

  drop-after : (n k : ℕ) (xs ys : List A) → n ≡ length xs → drop (n + k) (xs ++ ys) ≡ drop k ys
  drop-after n k xs ys long = ap (λ m. drop (m + k) (xs ++ ys)) long ∙ drop-append-add xs ys k

  -- Elements that move to a greater index can move in two steps: those from number n on, and then the first n.
  pub up : (xs : List A) (a b n m : ℕ) → b ≤ a → a + n + m ≤ length xs
      → paste (paste xs (a + n) (drop (b + n) xs) m) a (drop b (paste xs (a + n) (drop (b + n) xs) m)) n ≡ paste xs a (drop b xs) (n + m)
  up xs a b n m le within =
      let back = take m (drop (b + n) xs) ++ drop (a + n + m) xs in
      let moved = paste xs (a + n) (drop (b + n) xs) m in
      let is : moved ≡ take (a + n) xs ++ back = append_assoc (take (a + n) xs) (take m (drop (b + n) xs)) (drop (a + n + m) xs) in
      let long : a + n ≡ length (take (a + n) xs) = sym (length-take-le (a + n) xs (omega (arith, within))) in
      let first : take a moved ≡ take a xs = ap (take a) is ∙ take-before a (a + n) xs back (omega arith) (omega (arith, within)) in
      let block : take n (drop b moved) ≡ take n (drop b xs) =
      ap (λ zs. take n (drop b zs)) is ∙ sym (drop-take b n (take (a + n) xs ++ back)) ∙ ap (drop b) (take-before (b + n) (a + n) xs back (omega (arith, le)) (omega (arith, within))) ∙ drop-take b n xs in
      let rest : drop (a + n) moved ≡ back = ap (drop (a + n)) is ∙ ap (λ k. drop k (take (a + n) xs ++ back)) long ∙ drop-append_seam (take (a + n) xs) back in
      let both : take n (drop b xs) ++ take m (drop (b + n) xs) ≡ take (n + m) (drop b xs) =
      ap (λ zs. take n (drop b xs) ++ take m zs) (sym (drop-drop n b xs)) ∙ sym (take-add n m (drop b xs)) in
      let end : a + n + m ≡ a + (n + m) = omega arith in
      ap (λ zs. zs ++ take n (drop b moved) ++ drop (a + n) moved) first ∙ ap (λ zs. take a xs ++ zs ++ drop (a + n) moved) block ∙ ap (λ zs. take a xs ++ take n (drop b xs) ++ zs) rest
      ∙ sym (append_assoc (take a xs ++ take n (drop b xs)) (take m (drop (b + n) xs)) (drop (a + n + m) xs))
      ∙ ap (λ zs. zs ++ drop (a + n + m) xs) (append_assoc (take a xs) (take n (drop b xs)) (take m (drop (b + n) xs)))
      ∙ ap (λ zs. take a xs ++ zs ++ drop (a + n + m) xs) both ∙ ap (λ k. take a xs ++ take (n + m) (drop b xs) ++ drop k xs) end

  -- Elements that move to a smaller index can move in two steps: the first l, and then the others.
  pub down : (xs : List A) (a b l n : ℕ) → a ≤ b → b + l + n ≤ length xs
      → paste (paste xs a (drop b xs) l) (a + l) (drop (b + l) (paste xs a (drop b xs) l)) n ≡ paste xs a (drop b xs) (l + n)
  down xs a b l n le within =
      let front = take a xs ++ take l (drop b xs) in
      let moved = paste xs a (drop b xs) l in
      let long : a + l ≡ length front =
      omega (arith, length-append (take a xs) (take l (drop b xs)), length-take-le a xs (omega (arith, le, within)), length-take-le l (drop b xs) (simp length-drop (omega (arith, within)))) in
      let first : take (a + l) moved ≡ front = ap (λ k. take k (front ++ drop (a + l) xs)) long ∙ take-append_seam front (drop (a + l) xs) in
      let far : b + l ≡ a + l + (b - a) = omega (arith, le) in
      let block : drop (b + l) moved ≡ drop (b + l) xs =
      ap (λ k. drop k moved) far ∙ drop-after (a + l) (b - a) front (drop (a + l) xs) long ∙ drop-drop (b - a) (a + l) xs ∙ ap (λ k. drop k xs) (sym far) in
      let rest : drop (a + l + n) moved ≡ drop (a + l + n) xs = drop-after (a + l) n front (drop (a + l) xs) long ∙ drop-drop n (a + l) xs in
      let both : take l (drop b xs) ++ take n (drop (b + l) xs) ≡ take (l + n) (drop b xs) =
      ap (λ zs. take l (drop b xs) ++ take n zs) (sym (drop-drop l b xs)) ∙ sym (take-add l n (drop b xs)) in
      let end : a + l + n ≡ a + (l + n) = omega arith in
      ap (λ zs. zs ++ take n (drop (b + l) moved) ++ drop (a + l + n) moved) first ∙ ap (λ zs. front ++ take n zs ++ drop (a + l + n) moved) block ∙ ap (λ zs. front ++ take n (drop (b + l) xs) ++ zs) rest
      ∙ ap (λ zs. zs ++ drop (a + l + n) xs) (append_assoc (take a xs) (take l (drop b xs)) (take n (drop (b + l) xs)))
      ∙ ap (λ zs. take a xs ++ zs ++ drop (a + l + n) xs) both ∙ ap (λ k. take a xs ++ take (l + n) (drop b xs) ++ drop k xs) end

  -- One more element of a block is written.
  pub write-one : (xs ys zs : List A) (at k : ℕ) (z v : A) → v ≡ get_or ys k z → zs ≡ paste xs at ys k → at + k < length xs → k < length ys → set zs (at + k) v ≡ paste xs at ys (k + 1)
  write-one xs ys zs at k z v here is below within =
      let next : suc k ≡ k + 1 = omega arith in
      ap (set zs (at + k)) here ∙ ap (λ vs. set vs (at + k) (get_or ys k z)) is ∙ paste-suc xs at ys k z below within ∙ ap (paste xs at ys) next

  -- One more element of a block is read.
  pub read-one : (xs ys zs : List A) (from k : ℕ) (z v : A) → v ≡ get_or ys (from + k) z → zs ≡ paste xs 0 (drop from ys) k → k < length xs → from + k < length ys → set zs k v ≡ paste xs 0 (drop from ys) (k + 1)
  read-one xs ys zs from k z v here is below within =
      let none : k ≡ 0 + k = omega arith in
      ap (λ j. set zs j v) none ∙ write-one xs (drop from ys) zs 0 k z v (here ∙ sym (get_or-drop from ys k z)) is (omega (arith, below)) (simp length-drop (omega (arith, within)))

  -- A block that was read has as many elements as before.
  pub block-length : (xs ys block : List A) (from n : ℕ) → block ≡ paste ys 0 (drop from xs) n → n ≤ length ys → from + n ≤ length xs → length block ≡ length ys
  block-length xs ys block from n read long within =
      ap length read ∙ length-paste ys 0 (drop from xs) n (omega (arith, long)) (simp length-drop (omega (arith, within)))

  -- A block that was read is written.
  pub block-moved : (xs ys zs block : List A) (from to k n m : ℕ) → k ≡ n → m ≡ n → block ≡ paste ys 0 (drop from xs) k → from + n ≤ length xs → zs ≡ paste xs to block n → zs ≡ paste xs to (drop from xs) m
  block-moved xs ys zs block from to k n m all same read within written =
      let whole : take n block ≡ take n (drop from xs) = ap (take n) (read ∙ ap (paste ys 0 (drop from xs)) all ∙ append_assoc (take 0 ys) (take n (drop from xs)) (drop (0 + n) ys)) ∙ take-before n n (drop from xs) (drop (0 + n) ys) (omega arith) (simp length-drop (omega (arith, within))) in
      written ∙ ap (λ vs. take to xs ++ vs ++ drop (to + n) xs) whole ∙ sym (ap (paste xs to (drop from xs)) same)

  -- After the elements from number `left` on, the n elements before them move up.
  up-more : (xs ys zs : List A) (from to count left n : ℕ) → from ≤ to → to + count ≤ length xs → left ≤ count → n ≤ left
      → ys ≡ paste xs (to + left) (drop (from + left) xs) (count - left) → zs ≡ paste ys (to + (left - n)) (drop (from + (left - n)) ys) n
      → zs ≡ paste xs (to + (left - n)) (drop (from + (left - n)) xs) (count - (left - n))
  up-more xs ys zs from to count left n le within some fits before moved =
      let a = to + (left - n) in
      let b = from + (left - n) in
      let m = count - left in
      let ea : to + left ≡ a + n = omega (arith, fits) in
      let eb : from + left ≡ b + n = omega (arith, fits) in
      let em : n + m ≡ count - (left - n) = omega (arith, fits, some) in
      let is : ys ≡ paste xs (a + n) (drop (b + n) xs) m = before ∙ ap (λ k. paste xs k (drop (from + left) xs) m) ea ∙ ap (λ k. paste xs (a + n) (drop k xs) m) eb in
      moved ∙ ap (λ vs. paste vs a (drop b vs) n) is ∙ up xs a b n m (omega (arith, le)) (omega (arith, within, some, fits)) ∙ ap (paste xs a (drop b xs)) em

  copies : (xs : List A) (i j k d e n : ℕ) → i ≡ k → d ≡ e → j - i ≡ n → copy_within xs i j d ≡ paste xs e (drop k xs) n
  copies xs i j k d e n p q r = ap (λ m. paste xs m (drop i xs) (j - i)) q ∙ ap (λ m. paste xs e (drop m xs) (j - i)) p ∙ ap (paste xs e (drop k xs)) r

  -- After a block of the remaining elements was moved up, the elements from its first on are moved.
  pub up-step : (xs ys zs : List A) (from to count left n : ℕ) → from ≤ to → to + count ≤ length xs → left ≤ count → n ≤ left
      → ys ≡ copy_within xs (from + left) (from + count) (to + left) → zs ≡ copy_within ys (from + (left - n)) (from + (left - n) + n) (to + (left - n))
      → zs ≡ copy_within xs (from + (left - n)) (from + count) (to + (left - n))
  up-step xs ys zs from to count left n le within some fits before moved =
      up-more xs ys zs from to count left n le within some fits (before ∙ copies xs (from + left) (from + count) (from + left) (to + left) (to + left) (count - left) refl refl (omega (arith, some)))
      (moved ∙ copies ys (from + (left - n)) (from + (left - n) + n) (from + (left - n)) (to + (left - n)) (to + (left - n)) n refl refl (omega arith))
      ∙ sym (copies xs (from + (left - n)) (from + count) (from + (left - n)) (to + (left - n)) (to + (left - n)) (count - (left - n)) refl refl (omega (arith, some, fits)))

  -- After the remaining elements were moved up, all are.
  pub up-rest : (xs ys zs : List A) (from to count left : ℕ) → from ≤ to → to + count ≤ length xs → left ≤ count
      → ys ≡ copy_within xs (from + left) (from + count) (to + left) → zs ≡ copy_within ys from (from + left) to → zs ≡ copy_within xs from (from + count) to
  up-rest xs ys zs from to count left le within some before moved =
      up-more xs ys zs from to count left left le within some (omega arith) (before ∙ copies xs (from + left) (from + count) (from + left) (to + left) (to + left) (count - left) refl refl (omega (arith, some)))
      (moved ∙ copies ys from (from + left) (from + (left - left)) to (to + (left - left)) left (omega arith) (omega arith) (omega arith))
      ∙ sym (copies xs from (from + count) (from + (left - left)) to (to + (left - left)) (count - (left - left)) (omega arith) (omega arith) (omega arith))

  -- After the first `done` elements, the n elements after them move down.
  pub down-step : (xs ys zs : List A) (from to done n end far : ℕ) → to ≤ from → from + done + n ≤ length xs → end ≡ from + done + n → far ≡ from + (done + n)
      → ys ≡ copy_within xs from (from + done) to → zs ≡ copy_within ys (from + done) end (to + done) → zs ≡ copy_within xs from far to
  down-step xs ys zs from to done n end far le within e f before moved =
      let is : ys ≡ paste xs to (drop from xs) done = before ∙ copies xs from (from + done) from to to done refl refl (omega arith) in
      moved ∙ copies ys (from + done) end (from + done) (to + done) (to + done) n refl refl (omega (arith, e)) ∙ ap (λ vs. paste vs (to + done) (drop (from + done) vs) n) is
      ∙ down xs to from done n le within ∙ sym (copies xs from far from to to (done + n) refl refl (omega (arith, f)))
