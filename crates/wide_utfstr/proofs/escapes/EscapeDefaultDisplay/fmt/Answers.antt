use Rattle.wide_utfstr.specs.Escapes.{escapes_rest}
use Rattle.wide_utfstr.proofs.Escaped.{all-reported}
use Rattle.wide_utfstr.proofs.escapes.EscapeDefaultDisplay.fmt.Goals as goal

pub returns-clause-writes : goal.returns-clause-writes
returns-clause-writes g c = c.write.ensures.writes (all-reported (escapes_rest c.args.self.now.escapes))

pub returns-clause-styled : goal.returns-clause-styled
returns-clause-styled g c = c.write.ensures.styled (all-reported (escapes_rest c.args.self.now.escapes))
