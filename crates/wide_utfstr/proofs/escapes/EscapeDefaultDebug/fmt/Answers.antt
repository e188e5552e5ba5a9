use Rattle.wide_utfstr.specs.Escapes.{escapes_rest}
use Rattle.wide_utfstr.proofs.Escaped.{all-reported}
use Rattle.wide_utfstr.proofs.escapes.EscapeDefaultDebug.fmt.Goals as goal

pub returns : goal.returns
returns g c = record { writes = c.write_quoted.ensures (all-reported (escapes_rest c.args.self.now.escapes)) }
