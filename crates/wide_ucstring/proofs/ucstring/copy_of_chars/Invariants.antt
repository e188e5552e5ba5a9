use Rattle.std.proofs.Common.{◌≡◌, ◌≤◌, ◌+◌, take, length, vec_len, vec_capacity}
use Rattle.wide_ucstring.proofs.ucstring.copy_of_chars.Given as goal

abbrev pub invariant-loop-c : goal.invariant-loop-c
invariant-loop-c g l = record {
  so_far : l.units.items ≡ take l.c-index l.chars;
  len : vec_len l.units ≡ l.c-index;
  space : length l.chars + 1 ≤ vec_capacity l.units;
}
