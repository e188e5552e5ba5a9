use Rattle.std.proofs.Common.{◌≡◌, ◌+◌, ◌*◌, ◌∙◌, ◌++◌, ap, take, arith}
use Rattle.wide_utf16_to_utf8.specs.Encoded.{high_word, low_word}
use Rattle.wide_utf16_to_utf8.proofs.Stores.{pair-word}
use Rattle.wide_utf16_to_utf8.proofs.one_unit.put_pair.Goals as goal

pub returns-clause-text : goal.returns-clause-text
returns-clause-text c =
    let h = c.args.high in
    let l = c.args.low in
    let is : c.join.result ≡ high_word h + low_word h l * 0x10000 = omega (arith, c.join.ensures, c.high_word_of.ensures, c.low_word_of.ensures) in
    c.put_u32_le.ensures ∙ ap (λ bs. take c.args.at c.args.out.now ++ bs) (pair-word h l c.join.result (omega arith) (omega arith) (omega arith) (omega arith) is)
