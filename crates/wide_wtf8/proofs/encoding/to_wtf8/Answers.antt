use Rattle.std.proofs.Common.{◌≡◌, ◌∙◌, ap, arith, length}
use Rattle.wide_schemes.specs.Wtf8.{wtf8}
use Rattle.wide_schemes.specs.Wtf8Laws.{wtf8-nil}
use Rattle.wide_wtf8.proofs.encoding.to_wtf8.Goals as goal

pub returns-in_err-text-clause-succeeds : goal.returns-in_err-text-clause-succeeds
returns-in_err-text-clause-succeeds g c = λ none.
    let bytes : length (wtf8 c.args.units.now) ≡ 0 = ap (λ us. length (wtf8 us)) none ∙ ap length wtf8-nil in
    let asked : c.wtf8_len.result ≡ 0 = omega (arith, c.wtf8_len.ensures, bytes) in
    let failed = c.in_err-text.ensures.succeeds asked in absurd cc
