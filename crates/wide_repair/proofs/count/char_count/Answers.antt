use Rattle.std.proofs.Common.{◌-◌, ◌∙◌, ap, length}
use Rattle.wide_repair.proofs.Counts.{length-chars16}
use Rattle.wide_repair.proofs.count.char_count.Goals as goal

pub returns : goal.returns
returns c = ap (λ n. length c.args.units.now - n) c.count_low.ensures ∙ length-chars16 c.args.units.now c.requires
