use Rattle.std.proofs.Common.{◌≡◌, ◌↔◌, map, length}
use Rattle.std.specs.Str.{chars as str_chars}
use Rattle.wide_forms.specs.Items.{IsWellFormed, chars}
use Rattle.wide_forms.specs.Utf8.{utf8}
use Rattle.wide_utfstr.specs.View.{text_seen}
use Rattle.wide_utfstr.proofs.view.UtfStr.eq_str.Given as goal

abbrev pub invariant-chunks : goal.invariant-chunks
invariant-chunks g l = record {
  well_formed : IsWellFormed g.C.Unit.form (map g.C.Unit.number l.ours);
  same : (text_seen l.self ≡ str_chars l.text) ↔ (utf8 (chars g.C.Unit.form (map g.C.Unit.number l.ours)) ≡ l.theirs);
}

abbrev pub decreases-chunks : goal.decreases-chunks
decreases-chunks g l = length l.ours
