use Rattle.std.proofs.Common.{rules, ◌≡◌, drop, take, sym, subst, ◌++◌, length}
use Rattle.std.specs.Io.KnownBytes.{Consumes}
use Rattle.wideconv_command.proofs.Inputs.{head-taken}
use Rattle.wideconv_command.specs.Inputs.{head_of, left_of, source_of}
use Rattle.wideconv_command.proofs.input.InputByteSource.take.Goals as goal

-- Some of the beginning was taken.
pub returns-then-not-is_empty-clause-bytes : goal.returns-then-not-is_empty-clause-bytes
returns-then-not-is_empty-clause-bytes g c =
    let n = c.min-len.result in
    let old = c.args.self.now in
    let new = c.skip.new.self in
    let head = head_of old in
    let long : length c.copy_from_slice.new.self ≡ n = search rules in
    let taken = head-taken head (head_of new) (drop n c.args.buf.now) c.copy_from_slice.new.self n (g.S.ByteSource.has_ended (source_of old)) (g.S.ByteSource.left (source_of old)) (search rules) long c.skip.ensures.head in (
      subst (λ s. Consumes (left_of head (g.S.ByteSource.has_ended (source_of old)) (g.S.ByteSource.left (source_of old))) (left_of (head_of new) (g.S.ByteSource.has_ended s) (g.S.ByteSource.left s)) (take n (c.copy_from_slice.new.self ++ drop n c.args.buf.now))) (sym c.skip.ensures.source) taken,
      λ none some. absurd (search rules),
    )
