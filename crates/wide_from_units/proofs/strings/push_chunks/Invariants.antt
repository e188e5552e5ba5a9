use Rattle.std.proofs.Common.{◌≡◌, ℕ, List, ◌++◌, ◌+◌, ◌≤◌, length, map, vec_capacity, vec_len}
use Rattle.wide_forms.specs.Items.{IsWellFormed, chars}
use Rattle.wide_forms.specs.Utf8.{utf8}
use Rattle.wide_from_units.proofs.strings.push_chunks.Given as goal

abbrev pub invariant-chunks : goal.invariant-chunks
invariant-chunks g l = record {
  capacity : vec_capacity l.fn.text ≤ vec_capacity l.text;
  len : vec_len l.text + length (utf8 (chars g.C.Unit.form (map g.C.Unit.number l.rest))) ≡ vec_len l.fn.text + length (utf8 (chars g.C.Unit.form (map g.C.Unit.number l.units)));
  prefix : (more : List ℕ) × (l.text.items ≡ l.fn.text.items ++ more) × (utf8 (chars g.C.Unit.form (map g.C.Unit.number l.units)) ≡ more ++ utf8 (chars g.C.Unit.form (map g.C.Unit.number l.rest)));
  within : length l.rest ≤ length l.units;
  well_formed : IsWellFormed g.C.Unit.form (map g.C.Unit.number l.rest);
  so_far : l.text.items ++ utf8 (chars g.C.Unit.form (map g.C.Unit.number l.rest)) ≡ l.fn.text.items ++ utf8 (chars g.C.Unit.form (map g.C.Unit.number l.units));
}

abbrev pub decreases-chunks : goal.decreases-chunks
decreases-chunks g l = length l.rest
