-- Repaired units without some of the replacement characters, in SIMD lanes and under a policy.
use Rattle.std.proofs.Common.{◌≡◌, ℕ, zero, suc, ◌+◌, ◌-◌, ◌*◌, ◌^◌, ◌%◌, ◌/◌, ◌<◌, ◌≤◌, Bool, true, false, cond, not, eqb, inl, inr, List, [], ◌∷◌, ◌++◌, append_assoc, length, get_or, map, replicate, take, drop, w16, refl, sym, ap, ◌∙◌, subst, arith, length-take, length-drop, get_or-take}
use Rattle.std.specs.Prelude.{nat_eq, is_some}
use Rattle.std.proofs.lemmas.Bool.Decides.{eqb_tells}
use Rattle.std.proofs.lemmas.List.{append-nil, drop-drop, drop-take, get_or-drop}
use Rattle.std.proofs.lemmas.Simd.{bitmask_splat}
use borrow.Rule.Slice.PartMut.{put_mid}
use lib.Lanes.{mask_l, put_chunk, top, zip2}
use Rattle.wide_forms.specs.EncodingForm.{Utf16, IsFault, code_units, encode}
use Rattle.wide_forms.specs.Segmentation.{Item, Char, Fault, units_of}
use Rattle.wide_forms.specs.Items.{items}
use Rattle.wide_forms.specs.Lossy.{lossy, lossy_after, replacement}
use Rattle.wide_forms.specs.Laws.Chains.{Chain}
use Rattle.wide_forms.specs.Laws.Forms.{some_units}
use Rattle.wide_forms.specs.Laws.Policies.{lossy_after-char, lossy_after-fault, lossy_after-none_left}
use Rattle.wide_forms.specs.Laws.Items.{items-chain, units_of-items}
use Rattle.wide_forms.specs.declared.policy.Policy.{Policy}
use Rattle.wide_repair.specs.Compressed.{retained_bits, is_retained}
use Rattle.wide_repair.specs.Compressed.{compressed_lanes}
use Rattle.wide_forms.specs.Bits.{bit_of}
use Rattle.wide_forms.proofs.Stored.{compressed-lead}
use Rattle.wide_forms.proofs.Stored.{stored-block}

-- The repaired units that are retained.
abbrev pub retained : Policy → ℕ → ℕ → List ℕ → List ℕ → List ℕ
retained policy u m [] ms = []
retained policy u m (v ∷ us) [] = []
retained policy u m (v ∷ us) (w ∷ ms) = cond (is_retained policy u m v w) (w ∷ retained policy v w us ms) (retained policy v w us ms)

-- ---- bits

bit-set : (b : Bool) → not (eqb (bit_of b) 0) ≡ b
bit-set true = refl
bit-set false = refl

bits-lanes : (n : ℕ) (policy : Policy) (lanes us ms : List ℕ) → length lanes ≡ n → length us ≡ suc n → length ms ≡ suc n
    → ((k : ℕ) → k < n → get_or lanes k 0 ≡ bit_of (is_retained policy (get_or us k 0) (get_or ms k 0) (get_or us (k + 1) 0) (get_or ms (k + 1) 0)))
    → mask_l (map (λ x. not (eqb x 0)) lanes) ≡ retained_bits n policy (get_or us 0 0) (get_or ms 0 0) (drop 1 us) (drop 1 ms)
bits-lanes zero policy [] us ms long as_long as_many each = refl
bits-lanes zero policy (x ∷ lanes) us ms long as_long as_many each = absurd (omega arith)
bits-lanes (suc n) policy [] us ms long as_long as_many each = absurd (omega arith)
bits-lanes (suc n) policy (x ∷ lanes) [] ms long as_long as_many each = absurd (omega arith)
bits-lanes (suc n) policy (x ∷ lanes) (u ∷ []) ms long as_long as_many each = absurd (omega arith)
bits-lanes (suc n) policy (x ∷ lanes) (u ∷ v ∷ us) [] long as_long as_many each = absurd (omega arith)
bits-lanes (suc n) policy (x ∷ lanes) (u ∷ v ∷ us) (m ∷ []) long as_long as_many each = absurd (omega arith)
bits-lanes (suc n) policy (x ∷ lanes) (u ∷ v ∷ us) (m ∷ w ∷ ms) long as_long as_many each =
    let bit = is_retained policy u m v w in
    let first : not (eqb x 0) ≡ bit = ap (λ y. not (eqb y 0)) (each 0 (omega arith)) ∙ bit-set bit in
    let rest = bits-lanes n policy lanes (v ∷ us) (w ∷ ms) (omega arith) (omega arith) (omega arith) (λ k within. (let next : suc k + 1 ≡ suc (k + 1) = omega arith in subst (λ i. get_or lanes k 0 ≡ bit_of (is_retained policy (get_or (v ∷ us) k 0) (get_or (w ∷ ms) k 0) (get_or (u ∷ v ∷ us) i 0) (get_or (m ∷ w ∷ ms) i 0))) next (each (suc k) (omega arith)))) in
    ap (λ b. cond {A = ℕ} b 1 0 + 2 * mask_l (map (λ y. not (eqb y 0)) lanes)) first ∙ ap (λ n. bit_of bit + 2 * n) rest

pub bits-are : (policy : Policy) (lanes us ms : List ℕ) → length lanes ≡ 8 → length us ≡ 9 → length ms ≡ 9
    → ((k : ℕ) → k < 8 → get_or lanes k 0 ≡ bit_of (is_retained policy (get_or us k 0) (get_or ms k 0) (get_or us (k + 1) 0) (get_or ms (k + 1) 0)))
    → mask_l (map (top 15) (zip2 (λ a b. cond (not (eqb a b)) (2 ^ 16 - 1) 0) lanes (replicate 8 0))) % 2 ^ 64 ≡ retained_bits 8 policy (get_or us 0 0) (get_or ms 0 0) (drop 1 us) (drop 1 ms)
bits-are policy lanes us ms long as_long as_many each =
    bitmask_splat w16 (λ a b. not (eqb a b)) lanes 8 0 long (omega arith) ∙ bits-lanes 8 policy lanes us ms long as_long as_many each

one-bit : (b : Bool) → bit_of b ≤ 1
one-bit true = omega arith
one-bit false = omega arith

pub bits-few : (n : ℕ) (policy : Policy) (u m : ℕ) (us ms : List ℕ) → retained_bits n policy u m us ms < 2 ^ n
bits-few zero policy u m us ms = omega arith
bits-few (suc n) policy u m [] ms = (let some = bits-few n policy u m [] ms in omega (arith, some))
bits-few (suc n) policy u m (v ∷ us) [] = (let some = bits-few n policy u m us [] in omega (arith, some))
bits-few (suc n) policy u m (v ∷ us) (w ∷ ms) = omega (arith, bits-few n policy v w us ms, one-bit (is_retained policy u m v w))

-- ---- the units that the bits select

first-compressed : (b : Bool) (bits x : ℕ) (xs : List ℕ) → compressed_lanes (bit_of b + 2 * bits) (x ∷ xs) ≡ cond b (x ∷ compressed_lanes bits xs) (compressed_lanes bits xs)
first-compressed true bits x xs =
    let odd : (1 + 2 * bits) % 2 ≡ 1 = omega arith in
    let half : (1 + 2 * bits) / 2 ≡ bits = omega arith in
    rw (odd, half) refl
first-compressed false bits x xs =
    let even : (0 + 2 * bits) % 2 ≡ 0 = omega arith in
    let half : (0 + 2 * bits) / 2 ≡ bits = omega arith in
    rw (even, half) refl

retained-bits : (n : ℕ) (policy : Policy) (u m : ℕ) (us ms : List ℕ) → length us ≡ n → length ms ≡ n → compressed_lanes (retained_bits n policy u m us ms) ms ≡ retained policy u m us ms
retained-bits zero policy u m [] [] long as_long = refl
retained-bits zero policy u m [] (w ∷ ms) long as_long = absurd (omega arith)
retained-bits zero policy u m (v ∷ us) ms long as_long = absurd (omega arith)
retained-bits (suc n) policy u m [] ms long as_long = absurd (omega arith)
retained-bits (suc n) policy u m (v ∷ us) [] long as_long = absurd (omega arith)
retained-bits (suc n) policy u m (v ∷ us) (w ∷ ms) long as_long =
    let bit = is_retained policy u m v w in
    first-compressed bit (retained_bits n policy v w us ms) w ms ∙ ap (λ xs. cond bit (w ∷ xs) xs) (retained-bits n policy v w us ms (omega arith) (omega arith))

-- ---- one chunk after another

add-first : (b : Bool) (x : ℕ) (a c : List ℕ) → cond b (x ∷ (a ++ c)) (a ++ c) ≡ cond b (x ∷ a) a ++ c
add-first true x a c = refl
add-first false x a c = refl

retained-parts : (n : ℕ) (policy : Policy) (us ms : List ℕ) → n < length us → n < length ms
    → retained policy (get_or us 0 0) (get_or ms 0 0) (drop 1 us) (drop 1 ms) ≡ retained policy (get_or us 0 0) (get_or ms 0 0) (take n (drop 1 us)) (take n (drop 1 ms)) ++ retained policy (get_or us n 0) (get_or ms n 0) (drop (suc n) us) (drop (suc n) ms)
retained-parts n policy [] ms within as_within = absurd (omega arith)
retained-parts n policy (u ∷ us) [] within as_within = absurd (omega arith)
retained-parts zero policy (u ∷ us) (m ∷ ms) within as_within = refl
retained-parts (suc n) policy (u ∷ []) (m ∷ ms) within as_within = absurd (omega arith)
retained-parts (suc n) policy (u ∷ v ∷ us) (m ∷ []) within as_within = absurd (omega arith)
retained-parts (suc n) policy (u ∷ v ∷ us) (m ∷ w ∷ ms) within as_within =
    let bit = is_retained policy u m v w in
    let lead = retained policy v w (take n us) (take n ms) in
    let back = retained policy (get_or (v ∷ us) n 0) (get_or (w ∷ ms) n 0) (drop (suc n) (v ∷ us)) (drop (suc n) (w ∷ ms)) in
    ap (λ xs. cond bit (w ∷ xs) xs) (retained-parts n policy (v ∷ us) (w ∷ ms) (omega arith) (omega arith)) ∙ add-first bit w lead back

-- ---- item by item

-- What is retained depends on the unit before only by whether it was replaced.
same-before : (policy : Policy) (u m v w : ℕ) (us ms : List ℕ) → nat_eq u m ≡ nat_eq v w → retained policy u m us ms ≡ retained policy v w us ms
same-before policy u m v w [] ms e = refl
same-before policy u m v w (x ∷ us) [] e = refl
same-before policy u m v w (x ∷ us) (y ∷ ms) e =
    let rest = retained policy x y us ms in
    ap (λ same. cond (cond (nat_eq x y) true (is_some (replacement policy (not same)))) (y ∷ rest) rest) e

abbrev pub beyond : Policy → Bool → List ℕ → List ℕ → List ℕ
beyond policy after us ms = retained policy 0 (bit_of after) us ms

own : (x : ℕ) → nat_eq x x ≡ true
own x = elim (eqb_tells x x) [
  | inl same ↦ same.0
  | inr other ↦ absurd (other.1 refl)
]

-- Units that were not replaced are retained.
valid-is_retained : (policy : Policy) (u m x : ℕ) (a us ms : List ℕ) → retained policy u m ((x ∷ a) ++ us) ((x ∷ a) ++ ms) ≡ (x ∷ a) ++ beyond policy false us ms
valid-is_retained policy u m x [] us ms =
    let rest = retained policy x x us ms in
    ap (λ same. cond (cond same true (is_some (replacement policy (not (nat_eq u m))))) (x ∷ rest) rest) (own x) ∙ ap (λ xs. x ∷ xs) (same-before policy x x 0 0 us ms (own x))
valid-is_retained policy u m x (y ∷ a) us ms =
    let rest = retained policy x x ((y ∷ a) ++ us) ((y ∷ a) ++ ms) in
    ap (λ same. cond (cond same true (is_some (replacement policy (not (nat_eq u m))))) (x ∷ rest) rest) (own x) ∙ ap (λ xs. x ∷ xs) (valid-is_retained policy x x y a us ms)

some-retain : (policy : Policy) (u m : ℕ) (a us ms : List ℕ) → 0 < length a → retained policy u m (a ++ us) (a ++ ms) ≡ a ++ beyond policy false us ms
some-retain policy u m [] us ms some = absurd (omega arith)
some-retain policy u m (x ∷ a) us ms some = valid-is_retained policy u m x a us ms

no-mask : (v : ℕ) → IsFault Utf16 v → nat_eq v 0xFFFD ≡ false
no-mask v fault = elim (eqb_tells v 0xFFFD) [
  | inl same ↦ absurd (fault 0xFFFD refl (ap (λ u. u ∷ []) (sym same.1)))
  | inr other ↦ other.0
]

-- The replacement character of a fault is retained if the policy replaces the fault.
mask-is_retained : (policy : Policy) (after : Bool) (v : ℕ) (us ms : List ℕ) → nat_eq v 0xFFFD ≡ false
    → beyond policy after (v ∷ us) (0xFFFD ∷ ms) ≡ cond (is_some (replacement policy after)) (0xFFFD ∷ beyond policy true us ms) (beyond policy true us ms)
mask-is_retained policy after v us ms other =
    let rest = retained policy v 0xFFFD us ms in
    ap (λ same. cond (cond same true (is_some (replacement policy (not (nat_eq 0 (bit_of after)))))) (0xFFFD ∷ rest) rest) other
    ∙ ap (λ follows. cond (is_some (replacement policy follows)) (0xFFFD ∷ rest) rest) (one-bit_is after)
    ∙ ap (λ xs. cond (is_some (replacement policy after)) (0xFFFD ∷ xs) xs) (same-before policy v 0xFFFD 0 1 us ms other)
  where
    one-bit_is : (b : Bool) → not (nat_eq 0 (bit_of b)) ≡ b
    one-bit_is true = refl
    one-bit_is false = refl

text-after_fault : (policy : Policy) (after : Bool) (v : ℕ) (is : List Item)
    → cond (is_some (replacement policy after)) (0xFFFD ∷ encode Utf16 (lossy_after policy true is)) (encode Utf16 (lossy_after policy true is)) ≡ encode Utf16 (lossy_after policy after (Fault v ∷ is))
text-after_fault policy after v is =
    add-mask (is_some (replacement policy after)) (lossy_after policy true is) ∙ ap (encode Utf16) (sym (lossy_after-fault policy after v is))
  where
    add-mask : (b : Bool) (cs : List ℕ) → cond b (0xFFFD ∷ encode Utf16 cs) (encode Utf16 cs) ≡ encode Utf16 (cond b (0xFFFD ∷ []) [] ++ cs)
    add-mask true cs = refl
    add-mask false cs = refl

text-after_char : (policy : Policy) (after : Bool) (c : ℕ) (is : List Item) → code_units Utf16 c ++ encode Utf16 (lossy_after policy false is) ≡ encode Utf16 (lossy_after policy after (Char c ∷ is))
text-after_char policy after c is = ap (encode Utf16) (sym (lossy_after-char policy after c is))

no-items : (policy : Policy) (after : Bool) → [] ≡ encode Utf16 (lossy_after policy after [])
no-items policy after = ap (encode Utf16) (sym (lossy_after-none_left policy after))

retained-items : (policy : Policy) (after : Bool) (is : List Item) → Chain Utf16 is → beyond policy after (units_of Utf16 is) (encode Utf16 (lossy is)) ≡ encode Utf16 (lossy_after policy after is)
retained-items policy after [] chain = no-items policy after
retained-items policy after (Char c ∷ is) chain =
    some-retain policy 0 (bit_of after) (code_units Utf16 c) (units_of Utf16 is) (encode Utf16 (lossy is)) (omega (arith, some_units Utf16 c)) ∙ ap (λ us. code_units Utf16 c ++ us) (retained-items policy false is chain.2) ∙ text-after_char policy after c is
retained-items policy after (Fault v ∷ is) chain =
    mask-is_retained policy after v (units_of Utf16 is) (encode Utf16 (lossy is)) (no-mask v chain.0) ∙ ap (λ us. cond (is_some (replacement policy after)) (0xFFFD ∷ us) us) (retained-items policy true is chain.2) ∙ text-after_fault policy after v is

retained-text : (policy : Policy) (after : Bool) (us ms : List ℕ) → ms ≡ encode Utf16 (lossy (items Utf16 us)) → beyond policy after us ms ≡ encode Utf16 (lossy_after policy after (items Utf16 us))
retained-text policy after us ms repaired =
    ap (λ xs. beyond policy after us xs) repaired ∙ ap (λ xs. beyond policy after xs (encode Utf16 (lossy (items Utf16 us)))) (sym (units_of-items Utf16 us)) ∙ retained-items policy after (items Utf16 us) (items-chain Utf16 us)

-- ---- eight lanes of which the first are used

pub lanes-stored : (xs ys : List ℕ) (at len : ℕ) → length ys ≡ 8 → at + 8 ≤ length xs → len ≤ 8 → take (at + len) (put_mid at (at + 8 - at) xs (put_chunk 0 (take (at + 8 - at) (drop at xs)) ys)) ≡ take at xs ++ take len ys
lanes-stored xs ys at len long space few =
    compressed-lead xs (put_mid at (at + 8 - at) xs (put_chunk 0 (take (at + 8 - at) (drop at xs)) ys)) ys at 8 len (omega arith) few (stored-block 8 xs ys at long space)

-- ---- one more step

eight-parts : (policy : Policy) (v w : ℕ) (vs ws : List ℕ) → 8 ≤ length vs → length ws ≡ length vs
    → retained policy v w vs ws ≡ retained policy v w (take 8 vs) (take 8 ws) ++ retained policy (get_or vs 7 0) (get_or ws 7 0) (drop 8 vs) (drop 8 ws)
eight-parts policy v w vs ws long as_long = retained-parts 8 policy (v ∷ vs) (w ∷ ws) (omega arith) (omega arith)

module _ (us : List ℕ) (done : ℕ) where
  next-at : get_or (drop done us) 7 0 ≡ get_or us (done + 8 - 1) 0
  next-at = (let last : done + 7 ≡ done + 8 - 1 = omega arith in get_or-drop done us 7 0 ∙ ap (λ i. get_or us i 0) last)

  module _ (some : 0 < done) (within : done + 8 ≤ length us) where
    part-first : get_or (take (done + 8 - (done - 1)) (drop (done - 1) us)) 0 0 ≡ get_or us (done - 1) 0
    part-first = (let none : done - 1 + 0 ≡ done - 1 = omega arith in get_or-take (done + 8 - (done - 1)) (drop (done - 1) us) 0 0 (omega arith) ∙ get_or-drop (done - 1) us 0 0 ∙ ap (λ i. get_or us i 0) none)

    part-rest : drop 1 (take (done + 8 - (done - 1)) (drop (done - 1) us)) ≡ take 8 (drop done us)
    part-rest =
        let nine : done + 8 - (done - 1) ≡ 1 + 8 = omega arith in
        let all : done - 1 + 1 ≡ done = omega arith in
        ap (λ n. drop 1 (take n (drop (done - 1) us))) nine ∙ drop-take 1 8 (drop (done - 1) us) ∙ ap (take 8) (drop-drop 1 (done - 1) us ∙ ap (λ n. drop n us) all)

pub retained-eights : (policy : Policy) (p q done : ℕ) (us ms lead more : List ℕ) → 0 < done → done + 8 ≤ length us → length ms ≡ length us
    → retained policy p q us ms ≡ lead ++ retained policy (get_or us (done - 1) 0) (get_or ms (done - 1) 0) (drop done us) (drop done ms)
    → more ≡ lead ++ compressed_lanes (retained_bits 8 policy (get_or (take (done + 8 - (done - 1)) (drop (done - 1) us)) 0 0) (get_or (take (done + 8 - (done - 1)) (drop (done - 1) ms)) 0 0) (drop 1 (take (done + 8 - (done - 1)) (drop (done - 1) us))) (drop 1 (take (done + 8 - (done - 1)) (drop (done - 1) ms)))) (drop 1 (take (done + 8 - (done - 1)) (drop (done - 1) ms)))
    → retained policy p q us ms ≡ more ++ retained policy (get_or us (done + 8 - 1) 0) (get_or ms (done + 8 - 1) 0) (drop (done + 8) us) (drop (done + 8) ms)
retained-eights policy p q done us ms lead more some within long so_far put =
    let as_within : done + 8 ≤ length ms = omega arith in
    let v : ℕ = get_or us (done - 1) 0 in
    let w : ℕ = get_or ms (done - 1) 0 in
    let here = retained policy v w (take 8 (drop done us)) (take 8 (drop done ms)) in
    let rest = retained policy (get_or us (done + 8 - 1) 0) (get_or ms (done + 8 - 1) 0) (drop (done + 8) us) (drop (done + 8) ms) in
    let lanes : more ≡ lead ++ compressed_lanes (retained_bits 8 policy v w (take 8 (drop done us)) (take 8 (drop done ms))) (take 8 (drop done ms)) = rw (part-first us done some within, part-first ms done some as_within, part-rest us done some within, part-rest ms done some as_within) at put in
    let retain = retained-bits 8 policy v w (take 8 (drop done us)) (take 8 (drop done ms)) (omega (arith, length-take 8 (drop done us), length-drop done us)) (omega (arith, length-take 8 (drop done ms), length-drop done ms)) in
    let written : more ≡ lead ++ here = lanes ∙ ap (λ xs. lead ++ xs) retain in
    let parts = eight-parts policy v w (drop done us) (drop done ms) (omega (arith, length-drop done us)) (omega (arith, length-drop done us, length-drop done ms)) in
    let both : retained policy v w (drop done us) (drop done ms) ≡ here ++ rest = rw (next-at us done, next-at ms done, drop-drop 8 done us, drop-drop 8 done ms) at parts in
    so_far ∙ ap (λ xs. lead ++ xs) both ∙ sym (append_assoc lead here rest) ∙ ap (λ xs. xs ++ rest) (sym written)

-- ---- all units

none-left : (xs : List ℕ) → length xs ≡ 0 → xs ≡ []
none-left [] none = refl
none-left (x ∷ xs) none = absurd (omega arith)

pub stayed-all : (policy : Policy) (after : Bool) (us ms out : List ℕ) (u m done : ℕ) → ms ≡ encode Utf16 (lossy (items Utf16 us)) → length us ≤ done → beyond policy after us ms ≡ out ++ retained policy u m (drop done us) (drop done ms)
    → out ≡ encode Utf16 (lossy_after policy after (items Utf16 us))
stayed-all policy after us ms out u m done repaired all so_far =
    let gone = none-left (drop done us) (omega (arith, all, length-drop done us)) in
    sym (so_far ∙ ap (λ xs. out ++ retained policy u m xs (drop done ms)) gone ∙ append-nil out) ∙ retained-text policy after us ms repaired

pub stayed-none : (policy : Policy) (after : Bool) (us ms : List ℕ) → ms ≡ encode Utf16 (lossy (items Utf16 us)) → length us ≡ 0 → [] ≡ encode Utf16 (lossy_after policy after (items Utf16 us))
stayed-none policy after us ms repaired none = stayed-all policy after us ms [] 0 0 0 repaired (omega arith) (ap (λ xs. beyond policy after xs ms) (none-left us none) ∙ sym (ap (λ xs. retained policy 0 0 xs ms) (none-left us none)))
