use Rattle.std.proofs.Common.{◌++◌, ◌∙◌, ◌-◌, replicate, ap}
use Rattle.std.specs.Prelude.{vec_len}
use Rattle.wide_utfstring.proofs.Lossies.{filled}
use Rattle.wide_utfstring.proofs.utfstring.UtfString.fill.Goals as goal

pub returns-clause-prefix : goal.returns-clause-prefix
returns-clause-prefix g c =
    filled c.resize.new.self.items c.extend_from_slice.new.self.items c.args.prefix.now (replicate (c.args.len - vec_len c.extend_from_slice.new.self) c.NUL.result) c.args.len c.in_ok-resize.ensures.items
    (c.in_ok-extend_from_slice.ensures.items ∙ ap (λ xs. xs ++ c.args.prefix.now) (c.in_ok-reserve_exact.ensures.items ∙ c.requires.empty)) c.requires.within
