use Rattle.std.proofs.Common.{◌≡◌, ◌≤◌, ◌++◌, [], length, take, ap, ◌∙◌, subst, arith, rules, length-take-le}
use Rattle.std.specs.Io.KnownBytes.{Consumes}
use Rattle.std.proofs.lemmas.Result.{err_from_is_err_and}
use Rattle.std.proofs.KnownBytes.{Consumes-trans, Appends-nil}
use Rattle.wide_transcode.proofs.Boms.{ends-by-rest, space-by-rest, reports-by-rest, nothing, one-byte, start-error, read-ends, bom-shorter, order-found, rest-moved}
use Rattle.wide_transcode.proofs.transcoding.transcode_under.Goals as goal

pub returns-in_err-pending-clause-run : goal.returns-in_err-pending-clause-run
returns-in_err-pending-clause-run g c =
    let t = c.in_err-pending.ensures in
    let e = err_from_is_err_and c.from_residual.result c.from_residual.ensures.1 in
    let start = start-error _ _ _ _ _ _ t.2 in
    let ends = read-ends c.from_residual.result e.0 (g.S.ByteSource.has_ended c.take_start.new.source) c.args.policy t.0 e.1 (e.2 ∙ start.0) start.1 in
    (t.0, [], record { given = t.1; put = Appends-nil _ }, ends.0, ends.1, ends.2)

pub returns-then-pending-eq0-clause-run : goal.returns-then-pending-eq0-clause-run
returns-then-pending-eq0-clause-run g c =
    let t = c.in_ok-pending.ensures in
    let long : length t.0 ≡ 0 = ap length t.2.1 ∙ length-take-le c.in_ok-pending.pending c.take_start.new.chunk t.2.0 ∙ omega arith in
    (t.0, [], record { given = t.1; put = Appends-nil _ }, (search rules, nothing c.args.policy t.0 long), tt, tt)

pub returns-else-pending-eq0-clause-run : goal.returns-else-pending-eq0-clause-run
returns-else-pending-eq0-clause-run g c =
    let t = c.in_ok-pending.ensures in
    let long : length t.0 ≡ 1 = ap length t.2.1 ∙ length-take-le c.in_ok-pending.pending c.take_start.new.chunk t.2.0 ∙ omega arith in
    (t.0, [], record { given = t.1; put = Appends-nil _ }, (search rules, one-byte c.args.policy t.0 long), tt, tt)

pub overflow_sub-pending : goal.overflow_sub-pending
overflow_sub-pending g c =
    let t = c.in_ok-pending.ensures in
    let first = take c.in_ok-pending.pending c.take_start.new.chunk in
    let long : length first ≡ c.in_ok-pending.pending = length-take-le c.in_ok-pending.pending c.take_start.new.chunk t.2.0 in
    omega (arith, ap length c.without_bom-len.ensures, bom-shorter first, long)

pub transcode_after-requires-clause-within : goal.transcode_after-requires-clause-within
transcode_after-requires-clause-within g c =
    let t = c.in_ok-pending.ensures in
    let first = take c.in_ok-pending.pending c.take_start.new.chunk in
    let long : length first ≡ c.in_ok-pending.pending = length-take-le c.in_ok-pending.pending c.take_start.new.chunk t.2.0 in
    omega (arith, ap length c.without_bom-len.ensures, bom-shorter first, long, t.2.0)

pub returns-clause-run : goal.returns-clause-run
returns-clause-run g c =
    let t = c.in_ok-pending.ensures in
    let pending = c.in_ok-pending.pending in
    let first = take pending c.take_start.new.chunk in
    let len = length c.without_bom-len.result.now in
    let long : length first ≡ pending = length-take-le pending c.take_start.new.chunk t.2.0 in
    let some : 2 ≤ length first = omega (arith, long, c.if-pending-lt2.false) in
    let order = order-found first _ _ c.byte_order-bom.ensures c.unwrap_or-order.ensures in
    let rest = rest-moved first c.move_to_start.new.chunk pending len some long (ap length c.without_bom-len.ensures) c.move_to_start.ensures in
    let r = c.transcode_after.ensures.run in
    let given = subst (λ bs. Consumes (g.S.ByteSource.left c.args.source.now) (g.S.ByteSource.left c.take_start.new.source) bs) t.2.1 t.1 in (
      first ++ r.0,
      r.1,
      record { given = Consumes-trans _ _ _ _ _ given r.2.given; put = r.2.put },
      ends-by-rest first some c.unwrap_or-order.result order (take len c.move_to_start.new.chunk) rest c.transcode_after.result _ c.args.policy r.0 r.1 r.3,
      space-by-rest first some c.unwrap_or-order.result order (take len c.move_to_start.new.chunk) rest c.transcode_after.result r.0 r.4,
      reports-by-rest first some c.unwrap_or-order.result order (take len c.move_to_start.new.chunk) rest c.transcode_after.result _ c.args.policy r.0 r.5,
    )
