-- What is left of a chunk.
use Rattle.std.proofs.Common.{◌≡◌, ℕ, ◌+◌, ◌-◌, ◌%◌, ◌<◌, ◌≤◌, ◌⊎◌, inl, inr, true, false, List, [], ◌∷◌, ◌++◌, Option, Some, None, length, get_or, take, drop, refl, sym, ap, ◌∙◌, subst, arith, length-drop, length-take-le, append_assoc}
use Rattle.std.proofs.lemmas.List.{take_all}
use Rattle.std.specs.Prelude.{is_some}
use Rattle.wide_bytes.specs.Bytes.{unit_in, units_in}
use Rattle.wide_transcode.specs.Encoded.{IsCertainFault, IsIncompleteTail, StopsAt, IsPending, HoldsAt, IsPendingOr}
use Rattle.wide_bytes.specs.declared.order.BoM.{BoM}
use Rattle.wide_bytes.specs.declared.order.BoM.TheVariants.{Little, Big}
use Rattle.wide_utf16_to_utf8.proofs.UnitEncodings.{drop-split}

-- ---- faults, whatever follows them

pub certain-low : (order : BoM) (a b u : ℕ) (bs : List ℕ) → u ≡ unit_in order a b → 0xdc00 ≤ u → u < 0xe000 → IsCertainFault order (a ∷ b ∷ bs) u
unfolding units_in
certain-low order a b u bs is from to = record { with = λ more. (units_in order (bs ++ more), ap (λ v. v ∷ units_in order (bs ++ more)) (sym is), inl (from, omega arith)) }

pub certain-high : (order : BoM) (a b d e h l : ℕ) (bs : List ℕ) → h ≡ unit_in order a b → l ≡ unit_in order d e → 0xd800 ≤ h → h < 0xdc00 → (0xdc00 ≤ l → 0xe000 ≤ l) → IsCertainFault order (a ∷ b ∷ d ∷ e ∷ bs) h
unfolding units_in
certain-high order a b d e h l bs is_h is_l from to apart = record {
  with = λ more. (
    unit_in order d e ∷ units_in order (bs ++ more),
    ap (λ v. v ∷ unit_in order d e ∷ units_in order (bs ++ more)) (sym is_h),
    inr ((from, omega arith), λ m back same low. let f : m ≡ l = cc in omega arith),
  );
}

-- A fault before some bytes is also one if more bytes follow.
pub certain-append : {order : BoM} {bytes : List ℕ} {u : ℕ} (more : List ℕ) → IsCertainFault order bytes u → IsCertainFault order (bytes ++ more) u
certain-append {order} {bytes} {u} more fault = record {
  with = λ others. let at = fault.with (more ++ others) in (at.0, ap (λ bs. units_in order bs) (append_assoc bytes more others) ∙ at.1, at.2);
}

pub zero-unit : (order : BoM) → unit_in order 0 0 ≡ 0
zero-unit Little = refl
zero-unit Big = refl

cut-or : (order : BoM) (bytes : List ℕ) → IsIncompleteTail order bytes → IsPendingOr order bytes
cut-or order [] cut = tt
cut-or order (a ∷ []) cut = tt
cut-or order (a ∷ b ∷ []) cut = inl cut
cut-or order (a ∷ b ∷ c ∷ []) cut = cut
cut-or order (a ∷ b ∷ c ∷ d ∷ bytes) cut = absurd cut

cut-or_zero : (order : BoM) (bytes : List ℕ) → length bytes % 2 ≡ 0 → IsIncompleteTail order bytes → IsPendingOr order (bytes ++ 0 ∷ 0 ∷ [])
cut-or_zero order [] even cut = inr (zero-unit order)
cut-or_zero order (a ∷ []) even cut = absurd (omega arith)
cut-or_zero order (a ∷ b ∷ []) even cut = (cut, refl, refl)
cut-or_zero order (a ∷ b ∷ c ∷ []) even cut = absurd (omega arith)
cut-or_zero order (a ∷ b ∷ c ∷ d ∷ bytes) even cut = absurd cut

-- What follows n bytes is a zero unit that may be the last.
abbrev pub ZeroAfter : List ℕ → ℕ → Type 0
ZeroAfter bytes n = n < length bytes → (n + 2 ≡ length bytes) × (n % 2 ≡ 0) × (drop n bytes ≡ 0 ∷ 0 ∷ [])

module _ (order : BoM) (bytes : List ℕ) (i n : ℕ) (low : i ≤ n) (high : n ≤ length bytes) where
  pub pending-fault : (fault : Option ℕ) → is_some fault ≡ true → StopsAt order (drop i (take n bytes)) fault → HoldsAt order (drop i bytes) fault
  pending-fault None some stop = absurd cc
  pending-fault (Some u) some stop = subst (λ bs. IsCertainFault order bs u) (sym (drop-split i n bytes low high)) (certain-append (drop n bytes) stop)

  pending-or : i % 2 ≡ 0 → ZeroAfter bytes n → IsIncompleteTail order (drop i (take n bytes)) → (n ≡ length bytes) ⊎ (n < length bytes) → IsPendingOr order (drop i bytes)
  pending-or even zeros cut (inl all) = subst (λ bs. IsPendingOr order bs) (ap (λ bs. drop i bs) (take_all n bytes (omega arith))) (cut-or order (drop i (take n bytes)) cut)
  pending-or even zeros cut (inr some) =
      let z = zeros some in
      let long : length (drop i (take n bytes)) ≡ n - i = omega (arith, length-drop i (take n bytes), length-take-le n bytes high) in
      subst (λ bs. IsPendingOr order bs) (sym (drop-split i n bytes low high ∙ ap (λ bs. drop i (take n bytes) ++ bs) z.2)) (cut-or_zero order (drop i (take n bytes)) (omega (arith, long, z.1)) cut)

  same-or-less : (n ≡ length bytes) ⊎ (n < length bytes)
  same-or-less = grind arith

  pub pending-or_of : (fault : Option ℕ) → is_some fault ≡ false → i % 2 ≡ 0 → ZeroAfter bytes n → StopsAt order (drop i (take n bytes)) fault → IsPendingOr order (drop i bytes)
  pending-or_of None none even zeros stop = pending-or even zeros stop same-or-less
  pending-or_of (Some u) none even zeros stop = absurd cc

pub fault-before_zero : (order : BoM) (rest : List ℕ) (u : ℕ) → IsPendingOr order rest → 4 ≤ length rest → u ≡ unit_in order (get_or rest 0 0) (get_or rest 1 0) → IsCertainFault order rest u
fault-before_zero order [] u pending long is = absurd (omega arith)
fault-before_zero order (a ∷ []) u pending long is = absurd (omega arith)
fault-before_zero order (a ∷ b ∷ []) u pending long is = absurd (omega arith)
fault-before_zero order (a ∷ b ∷ c ∷ []) u pending long is = absurd (omega arith)
fault-before_zero order (a ∷ b ∷ c ∷ d ∷ []) u pending long is =
    let low : unit_in order c d ≡ 0 = ap (λ x. unit_in order x d) pending.1 ∙ ap (λ y. unit_in order 0 y) pending.2 ∙ zero-unit order in
    let from : 0xD800 ≤ u = subst (λ v. 0xD800 ≤ v) (sym is) pending.0.0 in
    let to : u ≤ 0xDBFF = subst (λ v. v ≤ 0xDBFF) (sym is) pending.0.1 in
    certain-high order a b c d u 0 [] is (sym low) from (omega arith) (λ f. absurd (omega arith))
fault-before_zero order (a ∷ b ∷ c ∷ d ∷ e ∷ rest) u pending long is = absurd pending

pub pending-short : (order : BoM) (rest : List ℕ) → IsPendingOr order rest → length rest < 4 → IsPending order rest
pending-short order [] pending short = tt
pending-short order (a ∷ []) pending short = tt
pending-short order (a ∷ b ∷ []) pending short = pending
pending-short order (a ∷ b ∷ c ∷ []) pending short = pending
pending-short order (a ∷ b ∷ c ∷ d ∷ rest) pending short = absurd (omega arith)
