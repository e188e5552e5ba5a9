use Rattle.std.proofs.Common.{[], ◌++◌, ◌∙◌, append-nil, arith}
use Rattle.wide_utf16_to_utf8.proofs.Lanes.{first-beyond, first-pairs, window-beyond, window-pairs}
use Rattle.wide_utf16_to_utf8.proofs.to_utf8.put_paired.Goals as goal

pub put_paired_text-requires-clause-pairs : goal.put_paired_text-requires-clause-pairs
put_paired_text-requires-clause-pairs c = window-pairs c.args.units.now c.args.from _ c.if-from-gt0.true (omega arith) c.requires.pairs

pub returns-then-from-gt0-clause-text : goal.returns-then-from-gt0-clause-text
returns-then-from-gt0-clause-text c = window-beyond c.args.units.now c.args.from _ c.put_paired_text.result.read c.if-from-gt0.true (omega arith) c.put_paired_text.ensures.all c.put_paired_text.ensures.text

pub put_paired_text-requires-2-clause-pairs : goal.put_paired_text-requires-2-clause-pairs
put_paired_text-requires-2-clause-pairs c =
    let copied = c.copy_from_slice.new.self in
    first-pairs c.args.units.now (copied ++ []) c.args.from (omega arith) (append-nil copied ∙ c.copy_from_slice.ensures.after) c.requires.pairs

pub returns-clause-text : goal.returns-clause-text
returns-clause-text c =
    let copied = c.copy_from_slice.new.self in
    first-beyond c.args.units.now (copied ++ []) c.args.from c.put_paired_text-2.result.read (omega arith) (append-nil copied ∙ c.copy_from_slice.ensures.after) c.put_paired_text-2.ensures.all c.put_paired_text-2.ensures.text
