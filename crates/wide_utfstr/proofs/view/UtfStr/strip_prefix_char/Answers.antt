use Rattle.std.proofs.Common.{refl}
use Rattle.wide_search.proofs.Characters.{char-begins_end}
use Rattle.wide_utfstr.specs.View.{units_seen}
use Rattle.wide_utfstr.proofs.view.UtfStr.strip_prefix_char.Goals as goal

pub split_at-requires : goal.split_at-requires
split_at-requires g c =
    char-begins_end g.C.Unit.form g.C.Unit.number (units_seen c.args.self) c.args.self.well_formed c.args.c c.ranges.c.0 c.char_len.result c.char_len.ensures.value (c.if-not-starts_with_char.ensures.0 refl)
