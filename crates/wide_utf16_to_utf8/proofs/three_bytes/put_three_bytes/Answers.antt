use Rattle.std.proofs.Common.{◌≤◌, ◌+◌, sym, subst, arith}
use Rattle.std.proofs.lemmas.Simd.{get_or-chunk}
use Rattle.wide_utf16_to_utf8.proofs.Shuffles.{two-paired_text}
use Rattle.wide_utf16_to_utf8.proofs.three_bytes.put_three_bytes.Goals as goal

pub put_eight_words-half-requires-clause-plain : goal.put_eight_words-half-requires-clause-plain
put_eight_words-half-requires-clause-plain c k within = subst (λ u. 0xd800 ≤ u → 0xe000 ≤ u) (sym (get_or-chunk 0 8 c.args.block.now k 0 within)) (c.requires.plain (0 + k) (omega arith))

pub put_eight_words-requires-clause-plain : goal.put_eight_words-requires-clause-plain
put_eight_words-requires-clause-plain c k within = subst (λ u. 0xd800 ≤ u → 0xe000 ≤ u) (sym (get_or-chunk 8 8 c.args.block.now k 0 within)) (c.requires.plain (8 + k) (omega arith))

pub returns-clause-text : goal.returns-clause-text
returns-clause-text c = two-paired_text c.args.block.now c.requires.whole c.put_eight_words-half.ensures.text c.put_eight_words.ensures.text
