use Rattle.std.proofs.Common.{◌≡◌, ◌==◌, ◌&&◌, ◌||◌, nat_lt, min, rules, false, drop, take, sym, ap, subst, ◌∙◌, arith, ◌+◌, ◌-◌, length}
use Rattle.std.specs.Io.KnownBytes.{Keeps}
use Rattle.wideconv_command.proofs.Inputs.{kept-twice, looked}
use Rattle.wideconv_command.specs.Inputs.{left_of}
use Rattle.wideconv_command.proofs.input.Input.look.Goals as goal

-- More bytes were looked at, which are still left.
pub loop-preserved : goal.loop-preserved
loop-preserved g c =
    let old = c.loop.self in
    let new = c.take_after.new in
    let n = c.in-Ok.len in
    let space = length old.head - c.min-end.result in
    let bound : c.min-end.result ≡ min old.end (length old.head) = search rules in
    let over = c.in-Ok.ensures.ended ∙ ap (λ b. b || ((n == 0) && nat_lt 0 space)) (sym c.if-ended.ensures) in
    let more = looked old.from old.end c.min-end.result n space old.head new.bytes (g.S.ByteSource.has_ended new.source) (g.S.ByteSource.left old.source) (g.S.ByteSource.left new.source) (omega (arith, c.if-self-gt0.false)) bound c.in-Ok.ensures.prefix c.in-Ok.ensures.fits over c.in-Ok.ensures.given c.in-Ok.ensures.end in
    record {
      unfailed = c.in-Ok.ensures.failed ∙ ap (λ b. b || false) c.loop.invariant.unfailed;
      ended = c.loop.invariant.ended;
      left = kept-twice _ _ _ c.loop.invariant.left (subst (λ b. Keeps (left_of (drop old.from (take old.end old.head)) b (g.S.ByteSource.left old.source)) (left_of (drop old.from (take (c.min-end.result + n) new.bytes)) (g.S.ByteSource.has_ended new.source) (g.S.ByteSource.left new.source))) c.if-ended.ensures more);
    }
