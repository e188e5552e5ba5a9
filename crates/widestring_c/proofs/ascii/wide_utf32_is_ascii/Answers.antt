use Rattle.std.proofs.Common.{◌↔◌, IsTrue, subst, rules}
use Rattle.std.proofs.lemmas.List.{map-id}
use Rattle.std.specs.Prelude.{IsAscii}
use Rattle.widestring_c.proofs.ascii.wide_utf32_is_ascii.Goals as goal

pub returns-clause-ascii : goal.returns-clause-ascii
returns-clause-ascii c =
    let ascii : IsTrue c.is_ascii.result ↔ IsAscii c.args.units.now = subst (λ us. IsTrue c.is_ascii.result ↔ IsAscii us) (map-id c.args.units.now) c.is_ascii.ensures in
    search rules
