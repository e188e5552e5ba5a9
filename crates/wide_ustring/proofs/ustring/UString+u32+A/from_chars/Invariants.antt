use Rattle.std.proofs.Common.{◌≡◌, ◌≤◌, take, length, vec_len, vec_capacity}
use Rattle.wide_ustring.proofs.ustring.UString+u32+A.from_chars.Given as goal

abbrev pub invariant-loop-c : goal.invariant-loop-c
invariant-loop-c g l = record {
  so_far : l.units.items ≡ take l.c-index l.chars;
  len : vec_len l.units ≡ l.c-index;
  space : length l.chars ≤ vec_capacity l.units;
}
