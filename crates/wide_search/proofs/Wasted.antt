-- What a search by two units has spent: comparisons of units and offsets that it passed over, against those offsets and
-- the units that it compared in vain.
use Rattle.std.proofs.Common.{◌≡◌, ℕ, suc, ◌+◌, ◌-◌, ◌*◌, ◌/◌, ◌<◌, ◌≤◌, inl, inr, sym, ap, subst, arith}
use Rattle.std.proofs.lemmas.Bool.{cases_lt}
use Rattle.std.proofs.lemmas.Nat.{column_fits, div-add-mod'}
use Rattle.std.proofs.Math.Nat.{mul-suc}

-- Of `spent` steps, `base` were counted before. At most 60 were counted for each offset before `since`, when the costs
-- began at zero, and from there to `at` 44 for each offset and one for each unit that was compared in vain, `wasted` in
-- all, unless that number is the greatest one. These are few for the offsets and the needle's `m` units.
pub record IsPaid (base m since at wasted spent : ℕ) : Type 0 where
  pub grows : base ≤ spent
  pub exactly : wasted < 18446744073709551615 → spent ≤ base + 60 * since + 44 * (at - since) + wasted
  pub most : spent ≤ base + 60 * since + 60 * (at - since) + 129 * m

pub paid-first : (base m at : ℕ) → IsPaid base m at at 0 (base + 60 * at)
paid-first base m at = record { grows = omega arith; exactly = λ l. omega arith; most = omega arith }

-- A phase begins at `at` with no costs.
pub paid-anew : (base m at spent : ℕ) → base ≤ spent → spent ≤ base + 60 * at → IsPaid base m at at 0 spent
paid-anew base m at spent grows few = record { grows = grows; exactly = λ l. omega (arith, few); most = omega (arith, few) }

-- A try at which `matched` units match, after `step` offsets were passed over in blocks of sixteen.
pub paid-try : (base m since at step matched wasted wasted2 spent after : ℕ) → since ≤ at → m < 144115188075855872 → (at + (step + 1)) - since < 144115188075855872 → matched < m → spent ≤ after → after ≤ spent + step + 40 + matched → (wasted2 < 18446744073709551615 → wasted + matched ≤ wasted2 + 3) → (wasted ≤ wasted2)
    → wasted2 ≤ 16 * ((at + (step + 1)) - since + 4 * (m - 1) + 4) → IsPaid base m since at wasted spent → IsPaid base m since (at + (step + 1)) wasted2 after
paid-try base m since at step matched wasted wasted2 spent after le short near less grows few counts more small i =
    let below : wasted2 < 18446744073709551615 = omega (arith, small, short, near) in
    let before = i.exactly (omega (arith, more, below)) in
    record {
      grows = omega (arith, i.grows, grows);
      exactly = λ l. omega (arith, before, few, counts l, le);
      most = omega (arith, before, few, counts below, le, small, less);
    }

-- Offsets that are tried one by one, at which `matched` units match in all.
pub paid-each : (base m since at to matched wasted wasted2 spent after : ℕ) → since ≤ at → at ≤ to → m < 144115188075855872 → at - since < 144115188075855872 → matched ≤ 65 * m → spent ≤ after → after ≤ spent + 16 * (to - at) + matched
    → (wasted2 < 18446744073709551615 → wasted + matched ≤ wasted2 + 4 * (to - at)) → wasted ≤ 16 * (at - since + 4 * (m - 1) + 4) → 0 < m → IsPaid base m since at wasted spent → IsPaid base m since to wasted2 after
paid-each base m since at to matched wasted wasted2 spent after le forward short near few2 grows few counts small some i =
    let before = i.exactly (omega (arith, small, short, near)) in
    record {
      grows = omega (arith, i.grows, grows);
      exactly = λ l. omega (arith, before, few, counts l, le, forward);
      most = omega (arith, before, few, few2, le, forward, small, some);
    }

-- What a try and then a two-way search take: few for the offsets from `since` to `to`, but for some for each unit of the
-- needle.
pub paid-two_way : (base m since at step matched to wasted spent after last : ℕ) → since ≤ at → at + (step + 1) ≤ to → matched < m → after ≤ spent + step + 40 + matched → last ≤ after + (8 * (to - (at + (step + 1))) + 15 * m + 2) → IsPaid base m since at wasted spent
    → last ≤ base + 60 * (at + (step + 1)) + 8 * (to - (at + (step + 1))) + 145 * m + 2
paid-two_way base m since at step matched to wasted spent after last le forward less more more2 i = omega (arith, i.most, le, forward, less, more, more2)

-- The same of other numbers.
pub paid-as : (base m since since2 at at2 wasted wasted2 spent spent2 : ℕ) → since2 ≡ since → at2 ≡ at → wasted2 ≡ wasted → spent2 ≡ spent → IsPaid base m since at wasted spent → IsPaid base m since2 at2 wasted2 spent2
paid-as base m since since2 at at2 wasted wasted2 spent spent2 es ea ew ep i =
    subst (λ n. IsPaid base m n at2 wasted2 spent2) (sym es) (subst (λ n. IsPaid base m since n wasted2 spent2) (sym ea) (subst (λ n. IsPaid base m since at n spent2) (sym ew) (subst (λ n. IsPaid base m since at wasted n) (sym ep) i)))

-- A needle of `m` units was compared at each of the last 48 offsets but for `left` of them, which took `after` steps in
-- place of `before`.
pub record IsTried (m left before after : ℕ) : Type 0 where
  pub grows : before ≤ after
  pub each : after + m * left ≤ before + 48 * m

pub tried-none : (m before : ℕ) → IsTried m 48 before before
tried-none m before = record { grows = omega arith; each = omega arith }

pub tried-more : (m left before after next : ℕ) → next ≡ after + m → IsTried m (suc left) before after → IsTried m left before next
tried-more m left before after next is i = record { grows = omega (arith, is, i.grows); each = omega (arith, is, i.each, mul-suc m left) }

-- Where the first unit is not frequent, the tries passed over as many offsets as the needle has units.
pub passed-rare : (passed tries m : ℕ) → 4 ≤ tries → 64 + m / 4 ≤ passed / tries → m ≤ passed
passed-rare passed tries m some rare =
    let whole : passed / tries * tries ≤ passed = omega (arith, div-add-mod' passed tries) in
    let least : passed / tries * 4 ≤ passed / tries * tries = elim (cases_lt 4 tries) [
      | inl more ↦ omega (arith, column_fits (passed / tries) 4 (passed / tries) tries more (omega arith))
      | inr same ↦ (let e : 4 ≡ tries = omega (arith, some, same) in omega (arith, ap (λ k. passed / tries * k) e))
    ] in
    omega (arith, whole, least, rare)

-- A needle of `m` units has room at few offsets near the end.
pub near-end : (m left : ℕ) → left ≤ 49 → m * left ≤ 49 * m
near-end m left few = omega (arith, column_fits m left m 50 (omega (arith, few)) (omega arith))
