use Rattle.std.proofs.Common.{◌≡◌, ◌<◌, ◌≤◌, ℕ, false, get_or}
use Rattle.wide_utf16_to_utf8.proofs.to_utf8.has_surrogate.Given as goal

abbrev pub invariant-loop-k : goal.invariant-loop-k
invariant-loop-k l = l.found ≡ false → (j : ℕ) → j < l.k → 0xd800 ≤ get_or l.block j 0 → 0xe000 ≤ get_or l.block j 0
