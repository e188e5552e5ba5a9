-- What a two-way search has spent: comparisons of two units, against the offsets that it passed over.
use Rattle.std.proofs.Common.{◌≡◌, ℕ, ◌+◌, ◌-◌, ◌*◌, ◌<◌, ◌≤◌, arith}
use Rattle.std.specs.Prelude.{min}

-- Of `spent` steps, `base` were counted before, at most five for each of the needle's `m` units, at most `past` for the
-- units that are known to match past the cut, and the others at most eight for each offset from `from` to `at`. Before it
-- looks ahead again at `stop`, at least 16 offsets for each unit of the needle are passed over.
pub record IsSpent (base m from at past stop spent : ℕ) : Type 0 where
  pub grows : base ≤ spent
  pub steps : spent ≤ base + 5 * m + 8 * (at - from) + past
  pub ahead : stop < 18446744073709551615 → spent + 64 ≤ base + 5 * m + 4 * (at - from) + 4 * (stop - from) + past
  pub far : stop < 18446744073709551615 → from + 16 * m ≤ stop

-- The factorization of the needle takes five steps for each of its units at most.
pub spent-first : (base m from cut stop stretch spent : ℕ) → 0 < m → base ≤ spent → spent ≤ base + 5 * m → stretch ≡ min (m * 16) 18446744073709551615 → stop ≡ min (from + stretch) 18446744073709551615
    → IsSpent base m from from (2 * (0 - cut)) stop spent
spent-first base m from cut stop stretch spent some grows few long next = record {
  grows = grows;
  steps = omega (arith, few);
  ahead = λ l. omega (arith, few, some, long, next, l);
  far = λ l. omega (arith, long, next, l);
}

-- To look ahead takes 64 steps at most, which the offsets since the last time pay for.
pub spent-looking : (base m from at past stop stretch spent after : ℕ) (next : ℕ) → 0 < m → from ≤ at → stop ≤ at → at < 18446744073709551615 → stretch ≡ min (m * 16) 18446744073709551615 → next ≡ min (at + stretch) 18446744073709551615
    → spent ≤ after → after ≤ spent + 64 → IsSpent base m from at past stop spent → IsSpent base m from at past next after
spent-looking base m from at past stop stretch spent after next some le reached l long is grows few i = record {
  grows = omega (arith, i.grows, grows);
  steps = omega (arith, i.ahead (omega (arith, reached, l)), reached, few);
  ahead = λ l2. omega (arith, i.ahead (omega (arith, reached, l)), reached, few, some, long, is, l2);
  far = λ l2. omega (arith, long, is, l2, le);
}

-- Comparisons are paid for by the offsets that they rule out.
pub spent-comparing : (base m from at past stop spent on past2 after : ℕ) → from ≤ at → at ≤ on → spent ≤ after → after + past ≤ spent + past2 + 4 * (on - at) → IsSpent base m from at past stop spent → IsSpent base m from on past2 stop after
spent-comparing base m from at past stop spent on past2 after le forward grows few i = record {
  grows = omega (arith, i.grows, grows);
  steps = omega (arith, i.steps, few, le, forward);
  ahead = λ l. omega (arith, i.ahead l, few, le, forward);
  far = i.far;
}
