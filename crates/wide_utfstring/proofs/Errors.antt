-- Implications between facts about an error.
use Rattle.std.proofs.Common.{Result, Ok, Err}
use Rattle.std.specs.Prelude.{IfErr}

pub err_gives : {A E : Type 0} {P Q : E → Type 0} (r : Result A E) → ((e : E) → P e → Q e) → IfErr r P → IfErr r Q
err_gives (Ok x) f p = tt
err_gives (Err e) f p = f e p
