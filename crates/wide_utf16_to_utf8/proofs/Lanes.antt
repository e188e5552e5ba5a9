-- Encoding sixteen units in one step.
use Rattle.std.proofs.Common.{◌≡◌, ℕ, zero, suc, ◌+◌, ◌-◌, ◌<◌, ◌≤◌, true, false, List, [], ◌∷◌, ◌++◌, length, get_or, take, drop, sym, ap, ◌∙◌, subst, arith, length-drop, take-add, append_assoc, inl, inr, Option, Some, None}
use Rattle.std.proofs.lemmas.Simd.{get_or-chunk}
use Rattle.std.proofs.lemmas.Bool.{cases_lt}
use Rattle.std.proofs.lemmas.Nat.{le_or_l, le_or_r}
use Rattle.std.specs.Prelude.{bit_or}
use Rattle.std.proofs.lemmas.List.{take_all, append-nil, drop-take, drop_all, get_or-take, take-take}
use Rattle.std.specs.Prelude.{is_some}
use Rattle.wide_forms.specs.Laws.Utf8.{one_byte}
use Rattle.wide_utf16_to_utf8.specs.Encoded.{ArePaired, EncodedUnits, AreCutShort, BeginsWithFault, StopsBefore}
use Rattle.wide_utf16_to_utf8.proofs.UnitEncodings.{drop-split}
use Rattle.wide_utf16_to_utf8.proofs.UnitEncodings.{units-none, units-then, units-one}

-- ---- a block of the units

drop-more : (i j : ℕ) (xs : List ℕ) → drop (i + j) xs ≡ drop j (drop i xs)
drop-more zero j xs = let none : 0 + j ≡ j = omega arith in ap (λ n. drop n xs) none
drop-more (suc i) j [] = let next : suc i + j ≡ suc (i + j) = omega arith in ap (λ n. drop n []) next ∙ sym (drop_all j [] (omega arith))
drop-more (suc i) j (x ∷ xs) = let next : suc i + j ≡ suc (i + j) = omega arith in ap (λ n. drop n (x ∷ xs)) next ∙ drop-more i j xs

pub more-block : (us : List ℕ) (i r n : ℕ) {s t u : List ℕ} → r ≤ n → EncodedUnits (take i us) s t → EncodedUnits (take r (take n (drop i us))) t u → EncodedUnits (take (i + r) us) s u
more-block us i r n {s} {t} {u} short so_far block =
    let joined : take (i + r) us ≡ take i us ++ take r (take n (drop i us)) = take-add i r us ∙ ap (λ vs. take i us ++ vs) (sym (take-take r n (drop i us) short)) in
    subst (λ vs. EncodedUnits vs s u) (sym joined) (units-then so_far block)

pub whole-more : (us : List ℕ) (i n : ℕ) {s t u : List ℕ} → n ≡ 16 → EncodedUnits (take i us) s t → EncodedUnits (take n (drop i us)) t u → EncodedUnits (take (i + 16) us) s u
whole-more us i n {s} {t} {u} long so_far block =
    let joined : take (i + 16) us ≡ take i us ++ take n (drop i us) = take-add i 16 us ∙ ap (λ m. take i us ++ take m (drop i us)) (sym long) in
    subst (λ vs. EncodedUnits vs s u) (sym joined) (units-then so_far block)

pub fault-append : {us : List ℕ} {u : ℕ} (more : List ℕ) → BeginsWithFault us u → BeginsWithFault (us ++ more) u
fault-append more (tail, same, inl low) = (tail ++ more, ap (λ vs. vs ++ more) same, inl low)
fault-append more (tail, same, inr (high, l, back, is_tail, apart)) = (tail ++ more, ap (λ vs. vs ++ more) same, inr (high, l, back ++ more, ap (λ vs. vs ++ more) is_tail, apart))

pub stop-lead : (us : List ℕ) (r n : ℕ) (fault : Option ℕ) → r ≤ n → n ≤ length us → is_some fault ≡ true → StopsBefore (drop r (take n us)) fault → StopsBefore (drop r us) fault
stop-lead us r n None short within some stop = absurd cc
stop-lead us r n (Some u) short within some stop = subst (λ vs. BeginsWithFault vs u) (sym (drop-split r n us short within)) (fault-append (drop n us) stop)

pub stop-last : (us : List ℕ) (i r n : ℕ) (fault : Option ℕ) → n ≡ length us - i → StopsBefore (drop r (take n (drop i us))) fault → StopsBefore (drop (i + r) us) fault
stop-last us i r n fault all stop =
    let whole : take n (drop i us) ≡ drop i us = take_all n (drop i us) (omega (arith, length-drop i us)) in
    subst (λ vs. StopsBefore vs fault) (ap (λ vs. drop r vs) whole ∙ sym (drop-more i r us)) stop

pub cut-length : (us : List ℕ) → AreCutShort us → length us < 2
cut-length [] cut = omega arith
cut-length (u ∷ []) cut = omega arith
cut-length (u ∷ v ∷ us) cut = absurd cut

-- If there is no fault, at least one unit of a block is read.
pub some-read : (block : List ℕ) (r : ℕ) (fault : Option ℕ) → 2 ≤ length block → r ≤ length block → is_some fault ≡ false → StopsBefore (drop r block) fault → 0 < r
some-read block r None long within none stop = omega (arith, cut-length (drop r block) stop, length-drop r block)
some-read block r (Some u) long within none stop = absurd cc

-- The bitwise or of the units, joined with one more unit, is at least as great as each.
pub more-bits : (us : List ℕ) (k bits : ℕ) → ((j : ℕ) → j < k → get_or us j 0 ≤ bits) → (j : ℕ) → j < k + 1 → get_or us j 0 ≤ bit_or bits (get_or us k 0)
more-bits us k bits all j within = elim (cases_lt j k) [
  | inl before ↦ omega (arith, all j before, le_or_l bits (get_or us k 0))
  | inr from ↦ (let same : j ≡ k = omega arith in subst (λ i. get_or us i 0 ≤ bit_or bits (get_or us k 0)) (sym same) (le_or_r bits (get_or us k 0)))
]

-- ASCII characters are their own UTF-8.
pub encoded-ascii : (us before : List ℕ) → ((k : ℕ) → k < length us → get_or us k 0 < 0x80) → EncodedUnits us before (before ++ us)
encoded-ascii [] before ascii = subst (λ t. EncodedUnits [] before t) (sym (append-nil before)) (units-none before)
encoded-ascii (u ∷ us) before ascii =
    let low : u < 0x80 = ascii 0 (omega arith) in
    let first : EncodedUnits (u ∷ []) before (before ++ u ∷ []) = units-one u before (before ++ u ∷ []) (omega arith) (λ from. omega arith) (ap (λ bs. before ++ bs) (sym (one_byte u low))) in
    subst (λ t. EncodedUnits (u ∷ us) before t) (append_assoc before (u ∷ []) us) (units-then first (encoded-ascii us (before ++ u ∷ []) (λ k within. ascii (suc k) (omega arith))))

-- ---- units from an index on

pub more-lead : (us : List ℕ) (i r : ℕ) {s t u : List ℕ} → EncodedUnits (take i us) s t → EncodedUnits (take r (drop i us)) t u → EncodedUnits (take (i + r) us) s u
more-lead us i r {s} {t} {u} so_far lead = subst (λ vs. EncodedUnits vs s u) (sym (take-add i r us)) (units-then so_far lead)

pub stop-more : (us : List ℕ) (i r : ℕ) (fault : Option ℕ) → StopsBefore (drop r (drop i us)) fault → StopsBefore (drop (i + r) us) fault
stop-more us i r fault stop = subst (λ vs. StopsBefore vs fault) (sym (drop-more i r us)) stop

both : {a b a' b' : ℕ} → a ≡ a' → b ≡ b' → ArePaired a' b' → ArePaired a b
both {a} {b} {a'} {b'} ea eb p = subst (λ x. ArePaired x b) (sym ea) (subst (λ y. ArePaired a' y) (sym eb) p)

pub pairs-at : (us : List ℕ) (i n : ℕ) → n ≡ 17 → ((k : ℕ) → k < 16 → ArePaired (get_or (take n (drop i us)) k 0) (get_or (take n (drop i us)) (k + 1) 0)) → (k : ℕ) → k < 16 → ArePaired (get_or us (i + k) 0) (get_or us (i + k + 1) 0)
pairs-at us i n long pairs k within =
    let next : i + (k + 1) ≡ i + k + 1 = omega arith in
    both (sym (get_or-chunk i n us k 0 (omega arith))) (sym (get_or-chunk i n us (k + 1) 0 (omega arith) ∙ ap (λ j. get_or us j 0) next)) (pairs k within)

-- A window that begins one unit before an index.
pub window-pairs : (us : List ℕ) (i n : ℕ) → 0 < i → n ≡ 17 → ((k : ℕ) → k < 16 → ArePaired (get_or us (i + k) 0) (get_or us (i + k + 1) 0)) → (k : ℕ) → k < 15 → ArePaired (get_or (take n (drop (i - 1) us)) (k + 1) 0) (get_or (take n (drop (i - 1) us)) (k + 2) 0)
window-pairs us i n some long pairs k within =
    let first : i - 1 + (k + 1) ≡ i + k = omega arith in
    let second : i - 1 + (k + 2) ≡ i + k + 1 = omega arith in
    both (get_or-chunk (i - 1) n us (k + 1) 0 (omega arith) ∙ ap (λ j. get_or us j 0) first) (get_or-chunk (i - 1) n us (k + 2) 0 (omega arith) ∙ ap (λ j. get_or us j 0) second) (pairs k (omega arith))

pub window-beyond : (us : List ℕ) (i n r : ℕ) {s t : List ℕ} → 0 < i → n ≡ 17 → r ≤ 16 → EncodedUnits (take r (drop 1 (take n (drop (i - 1) us)))) s t → EncodedUnits (take r (drop i us)) s t
window-beyond us i n r {s} {t} some long few e =
    let same : i ≡ i - 1 + 1 = omega arith in
    let cut : drop 1 (take n (drop (i - 1) us)) ≡ drop 1 (take (1 + 16) (drop (i - 1) us)) = ap (λ m. drop 1 (take m (drop (i - 1) us))) long in
    let beyond : drop 1 (take n (drop (i - 1) us)) ≡ take 16 (drop i us) = cut ∙ drop-take 1 16 (drop (i - 1) us) ∙ ap (take 16) (sym (drop-more (i - 1) 1 us) ∙ ap (λ j. drop j us) (sym same)) in
    subst (λ vs. EncodedUnits vs s t) (ap (take r) beyond ∙ take-take r 16 (drop i us) few) e

-- A window that begins with a zero, before the first unit.
pub first-pairs : (us vs : List ℕ) (i : ℕ) → i ≡ 0 → vs ≡ take 16 us → ((k : ℕ) → k < 16 → ArePaired (get_or us (i + k) 0) (get_or us (i + k + 1) 0)) → (k : ℕ) → k < 15 → ArePaired (get_or (0 ∷ vs) (k + 1) 0) (get_or (0 ∷ vs) (k + 2) 0)
first-pairs us vs i none same pairs k within =
    let one : k + 1 ≡ suc k = omega arith in
    let two : k + 2 ≡ suc (suc k) = omega arith in
    let here : k ≡ i + k = omega arith in
    let after : suc k ≡ i + k + 1 = omega arith in
    both (ap (λ j. get_or (0 ∷ vs) j 0) one ∙ ap (λ ys. get_or ys k 0) same ∙ get_or-take 16 us k 0 (omega arith) ∙ ap (λ j. get_or us j 0) here)
    (ap (λ j. get_or (0 ∷ vs) j 0) two ∙ ap (λ ys. get_or ys (suc k) 0) same ∙ get_or-take 16 us (suc k) 0 (omega arith) ∙ ap (λ j. get_or us j 0) after) (pairs k (omega arith))

pub first-beyond : (us vs : List ℕ) (i r : ℕ) {s t : List ℕ} → i ≡ 0 → vs ≡ take 16 us → r ≤ 16 → EncodedUnits (take r vs) s t → EncodedUnits (take r (drop i us)) s t
first-beyond us vs i r {s} {t} none same few e = subst (λ xs. EncodedUnits xs s t) (ap (take r) same ∙ take-take r 16 us few ∙ ap (λ j. take r (drop j us)) (sym none)) e
