use Rattle.std.proofs.Common.{◌≡◌, ◌-◌, ◌++◌, [], true, take, drop, refl, sym, ◌∙◌, subst, arith, rules}
use Rattle.std.proofs.lemmas.Grind.{common_steps}
use Rattle.std.proofs.lemmas.Result.{err_from_is_err_and}
use Rattle.wide_transcode.specs.Encoded.{HoldsAt}
use Rattle.wide_transcode.proofs.Lossied.{text-flag}
use Rattle.wide_transcode.proofs.Sofar.{bytes-moved, started, stepped, taken-beyond}
use Rattle.wide_transcode.proofs.ChunkEnds.{no_moves, putting, taking, keeping, taking-none, put_error, write-ends, space-ends, fault-ends, finish-ends, read-ends}
use Rattle.wide_transcode.proofs.chunks.transcode_chunks.Goals as goal

pub chunks-init : goal.chunks-init
chunks-init g c = record {
  within = omega arith;
  few = omega arith;
  few_items = omega arith;
  run = ([], [], no_moves _ _, started c.args.order c.args.policy (take c.args.start c.args.chunk.now));
  source_unfailed = search rules;
  source_open = search rules;
  sink_unfailed = search rules;
}

pub encode_chunk-step-requires-clause-no_fault : goal.encode_chunk-step-requires-clause-no_fault
encode_chunk-step-requires-clause-no_fault g c none =
    let s = c.chunks.invariant.run.3 in
    s.lossied.flag ∙ sym (text-flag _ _ (s.strict none))

pub returns-in_err-put_all-clause-run : goal.returns-in_err-put_all-clause-run
returns-in_err-put_all-clause-run g c =
    let i = c.chunks.invariant.run in
    let step = c.encode_chunk-step in
    let first = take c.args.start c.args.chunk.now in
    let s = stepped _ _ step.result.read step.result.characters step.result.after_fault i.3 step.ensures.read step.ensures.text step.ensures.characters refl in
    let put = c.in_err-put_all.ensures in
    let e = err_from_is_err_and c.from_residual.result c.from_residual.ensures.1 in
    let w = put_error (Unit {0}) _ _ _ _ put.2 in
    let ends = write-ends first i.0 s c.from_residual.result e.0 (g.S.ByteSource.has_ended c.chunks.source) i.1 put.0 _ e.1 (e.2 ∙ w.0) refl w.1 in
    (i.0, i.1 ++ put.0, putting _ _ _ _ _ _ _ _ i.2 put.1, ends.0, ends.1, ends.2)

pub returns-in-Some-clause-run : goal.returns-in-Some-clause-run
returns-in-Some-clause-run g c =
    let i = c.chunks.invariant.run in
    let step = c.encode_chunk-step in
    let first = take c.args.start c.args.chunk.now in
    let put = c.in_ok-put_all.ensures in
    let s = stepped _ put.0 step.result.read step.result.characters step.result.after_fault i.3 step.ensures.read step.ensures.text step.ensures.characters put.2.1 in
    let fault = subst (λ f. HoldsAt c.args.order (drop step.result.read (take c.chunks.pending c.chunks.chunk)) f) c.in-Some.is step.ensures.stop in
    let ends = fault-ends c.args.policy first i.0 s (step.ensures.faults c.in-Some.unit c.in-Some.is) (Unit {0}) c.fault_at.result c.in-Some.unit (g.S.ByteSource.has_ended c.chunks.source) c.chunks.invariant.source_open c.fault_at.ensures fault in
    (i.0, i.1 ++ put.0, putting _ _ _ _ _ _ _ _ i.2 put.1, ends.0, ends.1, ends.2)

pub returns-then-position-gt-INDEX_LIMIT-clause-run : goal.returns-then-position-gt-INDEX_LIMIT-clause-run
returns-then-position-gt-INDEX_LIMIT-clause-run g c =
    let i = c.chunks.invariant.run in
    let step = c.encode_chunk-step in
    let first = take c.args.start c.args.chunk.now in
    let put = c.in_ok-put_all.ensures in
    let s = stepped _ put.0 step.result.read step.result.characters step.result.after_fault i.3 step.ensures.read step.ensures.text step.ensures.characters put.2.1 in
    let ends = space-ends first i.0 s (Unit {0}) (g.S.ByteSource.has_ended c.chunks.source) (omega arith) in
    (i.0, i.1 ++ put.0, putting _ _ _ _ _ _ _ _ i.2 put.1, ends.0, ends.1, ends.2)

pub returns-in-Err-clause-run : goal.returns-in-Err-clause-run
returns-in-Err-clause-run g c =
    let i = c.chunks.invariant.run in
    let step = c.encode_chunk-step in
    let first = take c.args.start c.args.chunk.now in
    let put = c.in_ok-put_all.ensures in
    let s = stepped _ put.0 step.result.read step.result.characters step.result.after_fault i.3 step.ensures.read step.ensures.text step.ensures.characters put.2.1 in
    let pending = subst (λ f. HoldsAt c.args.order (drop step.result.read (take c.chunks.pending c.chunks.chunk)) f) c.in_default.is step.ensures.stop in
    let ends = read-ends c.args.policy first i.0 s (Unit {0}) (g.S.ByteSource.has_ended c.take_after.new.source) pending in
    (i.0, i.1 ++ put.0, keeping _ _ _ _ _ _ _ (putting _ _ _ _ _ _ _ _ i.2 put.1) c.in-Err.ensures.kept, ends.0, ends.1, ends.2)

pub returns-in-Ok-eq0-clause-run : goal.returns-in-Ok-eq0-clause-run
returns-in-Ok-eq0-clause-run g c =
    let i = c.chunks.invariant.run in
    let step = c.encode_chunk-step in
    let first = take c.args.start c.args.chunk.now in
    let put = c.in_ok-put_all.ensures in
    let s = stepped _ put.0 step.result.read step.result.characters step.result.after_fault i.3 step.ensures.read step.ensures.text step.ensures.characters put.2.1 in
    let left : take (c.chunks.pending - step.result.read) c.take_after.new.bytes ≡ drop step.result.read (take c.chunks.pending c.chunks.chunk) = c.take_after.ensures.prefix ∙ c.move_to_start.ensures in
    let s' = bytes-moved (take (c.chunks.pending - step.result.read) c.take_after.new.bytes) s left in
    let over : g.S.ByteSource.has_ended c.take_after.new.source ≡ true = search rules in
    let last = c.finish.ensures.run in
    let ends = finish-ends c.args.policy first i.0 s' c.finish.result (g.S.ByteSource.has_ended c.take_after.new.source) last.0 over last.2 in
    let moves = taking-none _ _ _ _ _ _ _ _ _ c.in-Ok-eq0.field-0-test (putting _ _ _ _ _ _ _ _ i.2 put.1) c.in-Ok-eq0.ensures.given in
    (i.0, (i.1 ++ put.0) ++ last.0, putting _ _ _ _ _ _ _ _ moves last.1, ends.0, ends.1, ends.2)

pub chunks-preserved : goal.chunks-preserved
chunks-preserved g c =
    let i = c.chunks.invariant.run in
    let step = c.encode_chunk-step in
    let first = take c.args.start c.args.chunk.now in
    let put = c.in_ok-put_all.ensures in
    let s = stepped _ put.0 step.result.read step.result.characters step.result.after_fault i.3 step.ensures.read step.ensures.text step.ensures.characters put.2.1 in
    let left : take (c.chunks.pending - step.result.read) c.take_after.new.bytes ≡ drop step.result.read (take c.chunks.pending c.chunks.chunk) = c.take_after.ensures.prefix ∙ c.move_to_start.ensures in
    record {
      within = c.in-Ok.ensures.fits;
      few = omega arith;
      few_items = omega (arith, step.ensures.few, c.chunks.invariant.few_items);
      run = (_, _, taking _ _ _ _ _ _ _ _ (putting _ _ _ _ _ _ _ _ i.2 put.1) c.in-Ok.ensures.given, taken-beyond first i.0 c.take_after.new.bytes (c.chunks.pending - step.result.read) c.in-Ok.n s left);
      source_unfailed = search rules;
      source_open = search rules;
      sink_unfailed = search rules;
    }

pub move_to_start-requires-clause-ordered : goal.move_to_start-requires-clause-ordered
move_to_start-requires-clause-ordered g c = grind (arith, common_steps)

pub take_after-requires : goal.take_after-requires
take_after-requires g c = grind (arith, common_steps)

pub overflow_add-pending : goal.overflow_add-pending
overflow_add-pending g c = grind (arith, common_steps)

pub chunks-smaller : goal.chunks-smaller
chunks-smaller g c = grind (arith, common_steps)
