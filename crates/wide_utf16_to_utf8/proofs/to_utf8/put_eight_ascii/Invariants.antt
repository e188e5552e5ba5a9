use Rattle.std.proofs.Common.{◌≡◌, ◌<◌, ℕ, get_or, length}
use Rattle.wide_utf16_to_utf8.proofs.to_utf8.put_eight_ascii.Given as goal

abbrev pub invariant-loop-k : goal.invariant-loop-k
invariant-loop-k l = record {
  long : length l.bytes ≡ 8;
  same : (j : ℕ) → j < l.k → get_or l.bytes j 0 ≡ get_or l.units j 0;
}
