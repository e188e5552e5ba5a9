use Rattle.std.proofs.Common.{◌<◌, ◌+◌, sym, subst, arith}
use Rattle.std.proofs.lemmas.Simd.{get_or-chunk}
use Rattle.wide_utf16_to_utf8.proofs.Shuffles.{two-paired_text}
use Rattle.wide_utf16_to_utf8.proofs.two_bytes.put_two_bytes.Goals as goal

pub put_eight-half-requires-clause-narrow : goal.put_eight-half-requires-clause-narrow
put_eight-half-requires-clause-narrow c k within = subst (λ u. u < 0x800) (sym (get_or-chunk 0 8 c.args.block.now k 0 within)) (c.requires.narrow (0 + k) (omega arith))

pub put_eight-requires-clause-narrow : goal.put_eight-requires-clause-narrow
put_eight-requires-clause-narrow c k within = subst (λ u. u < 0x800) (sym (get_or-chunk 8 8 c.args.block.now k 0 within)) (c.requires.narrow (8 + k) (omega arith))

pub returns-clause-text : goal.returns-clause-text
returns-clause-text c = two-paired_text c.args.block.now c.requires.whole c.put_eight-half.ensures.text c.put_eight.ensures.text
