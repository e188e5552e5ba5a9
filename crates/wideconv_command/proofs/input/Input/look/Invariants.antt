use Rattle.std.proofs.Common.{◌≡◌, false}
use Rattle.std.specs.Io.KnownBytes.{Keeps}
use Rattle.wideconv_command.specs.Inputs.{has_taken_end, head_of, left_of, source_of}
use Rattle.wideconv_command.proofs.input.Input.look.Given as goal

-- Nothing was taken, and the source below has not failed.
abbrev pub invariant-loop : goal.invariant-loop
invariant-loop g l = record {
  unfailed : g.S.ByteSource.has_failed (source_of l.self) ≡ false;
  ended : has_taken_end l.self ≡ has_taken_end l.fn.self;
  left : Keeps (left_of (head_of l.fn.self) (g.S.ByteSource.has_ended (source_of l.fn.self)) (g.S.ByteSource.left (source_of l.fn.self))) (left_of (head_of l.self) (g.S.ByteSource.has_ended (source_of l.self)) (g.S.ByteSource.left (source_of l.self)));
}
