use Rattle.std.proofs.Common.{◌≡◌, ◌-◌, ◌≤◌, ℕ, List, length, take, drop, refl, sym, ◌∙◌, arith, rules}
use Rattle.std.proofs.lemmas.Bool.{eqb-true}
use Rattle.std.proofs.lemmas.List.{length-drop, length-take}
use Rattle.std.proofs.lemmas.Result.{err_from_is_err_and}
use Rattle.wide_convert.proofs.Streaming.{input-read, left-in, put-error, run-cut, run-done, run-ended, run-error, run-fault, run-long, run-space, run-taken, streaming-none}
use Rattle.wide_convert.proofs.devices.stream.Goals as goal

chunk-left : (chunk : List ℕ) (from end : ℕ) → end ≤ length chunk → length (take (end - from) (drop from chunk)) ≡ end - from
chunk-left chunk from end within = omega (arith, length-take (end - from) (drop from chunk), length-drop from chunk, within)

pub pieces-init : goal.pieces-init
pieces-init g c = record {
  from = omega arith;
  within = omega arith;
  long = refl;
  space = c.requires.space;
  ready = c.requires.ready;
  text = c.requires.text;
  source_unfailed = c.requires.source_unfailed;
  sink_unfailed = c.requires.sink_unfailed;
  source_open = c.requires.source_open;
  at_end = λ e. absurd cc;
  run = streaming-none c.args.reading.now c.args.to _ _ c.requires.ready;
}

pub shape_of-chunk-in_err-put_converted : goal.shape_of-chunk-in_err-put_converted
shape_of-chunk-in_err-put_converted g c = c.pieces.invariant.long

pub shape_of-chunk-in-Fault : goal.shape_of-chunk-in-Fault
shape_of-chunk-in-Fault g c = c.pieces.invariant.long

pub shape_of-chunk-then-is_last : goal.shape_of-chunk-then-is_last
shape_of-chunk-then-is_last g c = c.pieces.invariant.long

pub shape_of-chunk-in-Err : goal.shape_of-chunk-in-Err
shape_of-chunk-in-Err g c = c.take.auto.buf ∙ c.pieces.invariant.long

pub shape_of-chunk : goal.shape_of-chunk
shape_of-chunk g c = c.pieces.invariant.long

pub returns-in_err-put_converted-clause-run : goal.returns-in_err-put_converted-clause-run
returns-in_err-put_converted-clause-run g c =
    let p = c.feed-progress in
    let put = c.in_err-put_converted.ensures in
    let e = err_from_is_err_and c.from_residual.result c.from_residual.ensures.1 in
    let failed = put-error (Unit {0}) _ _ _ _ put.2 in
    run-cut c.args.reading.now c.pieces.reading p.new.reading c.args.to c.pieces.is_last _ c.pieces.counter _ _ _ _ _ c.pieces.invariant.run _ p.result.read _ p.result.end p.ensures.fed p.ensures.same p.ensures.read put.0 put.1 failed.1.1 (Unit {0}) c.from_residual.result e.0 _ e.1 (e.2 ∙ failed.0) c.pieces.invariant.source_open

pub returns-in-Fault-clause-run : goal.returns-in-Fault-clause-run
returns-in-Fault-clause-run g c =
    let p = c.feed-progress in
    let put = c.in_ok-put_converted.ensures in
    run-fault c.args.reading.now c.pieces.reading p.new.reading c.args.to c.pieces.is_last _ c.pieces.counter _ _ _ _ _ c.pieces.invariant.run _ p.result.read _ p.result.end p.ensures.fed p.ensures.same p.ensures.read put.0 put.1 put.2.1 c.in-Fault.fault c.in-Fault.is _ c.pieces.invariant.source_open

pub pieces-preserved-in-NoSpace : goal.pieces-preserved-in-NoSpace
pieces-preserved-in-NoSpace g c =
    let p = c.feed-progress in
    let put = c.in_ok-put_converted.ensures in
    let i = c.pieces.invariant in
    let long = chunk-left c.pieces.chunk c.pieces.from c.pieces.end i.within in
    let run = run-space c.args.reading.now c.pieces.reading p.new.reading c.args.to c.pieces.is_last _ c.pieces.counter _ _ _ _ _ i.run _ p.result.read _ p.result.end p.ensures.fed p.ensures.same p.ensures.read put.0 put.1 put.2.1 c.in-NoSpace.is (omega (arith, length-take p.result.written p.new.out, p.ensures.written, p.auto.out, i.space)) in
    record {
      from = omega (arith, i.from, p.ensures.read, long);
      within = i.within;
      long = i.long;
      space = omega (arith, p.auto.out, i.space);
      ready = p.ensures.ready;
      text = λ needs. p.ensures.same.keeps ∙ i.text needs;
      source_unfailed = i.source_unfailed;
      sink_unfailed = put.2.0;
      source_open = i.source_open;
      at_end = i.at_end;
      run = rw (sym (left-in c.pieces.chunk c.pieces.from c.pieces.end p.result.read (omega (arith, p.ensures.read, long)))) run;
    }

pub returns-then-is_last : goal.returns-then-is_last
returns-then-is_last g c =
    let p = c.feed-progress in
    let put = c.in_ok-put_converted.ensures in
    let i = c.pieces.invariant in
    let input = input-read p.result.end c.in_default.not-Fault c.in_default-end.not-NoSpace in
    let run = run-done c.args.reading.now c.pieces.reading p.new.reading c.args.to c.pieces.is_last _ c.pieces.counter _ _ _ _ _ i.run _ p.result.read _ p.result.end p.ensures.fed p.ensures.same p.ensures.read put.0 put.1 put.2.1 input in
    let all = run-ended c.args.reading.now p.new.reading c.args.to c.pieces.is_last c.pieces.counter _ _ _ _ run c.if-is_last.true (Unit {0}) c.end_of_text.result _ i.source_open c.end_of_text.ensures (i.at_end c.if-is_last.true) in
    record {
      run = all.0;
      ready = p.ensures.ready;
      at_end = all.1.0;
      source_failed = i.source_unfailed ∙ all.1.1.0;
      sink_failed = put.2.0 ∙ all.1.1.1;
    }

pub returns-in-Err : goal.returns-in-Err
returns-in-Err g c =
    let p = c.feed-progress in
    let put = c.in_ok-put_converted.ensures in
    let i = c.pieces.invariant in
    let input = input-read p.result.end c.in_default.not-Fault c.in_default-end.not-NoSpace in
    let run = run-done c.args.reading.now c.pieces.reading p.new.reading c.args.to c.pieces.is_last _ c.pieces.counter _ _ _ _ _ i.run _ p.result.read _ p.result.end p.ensures.fed p.ensures.same p.ensures.read put.0 put.1 put.2.1 input in
    record {
      run = run-error c.args.reading.now p.new.reading c.args.to c.pieces.is_last c.pieces.counter _ _ _ _ _ run c.if-is_last.false c.in-Err.ensures.bytes;
      ready = p.ensures.ready;
      at_end = tt;
      source_failed = search rules;
      sink_failed = put.2.0;
    }

pub pieces-preserved : goal.pieces-preserved
pieces-preserved g c =
    let p = c.feed-progress in
    let put = c.in_ok-put_converted.ensures in
    let i = c.pieces.invariant in
    let input = input-read p.result.end c.in_default.not-Fault c.in_default-end.not-NoSpace in
    let run = run-done c.args.reading.now c.pieces.reading p.new.reading c.args.to c.pieces.is_last _ c.pieces.counter _ _ _ _ _ i.run _ p.result.read _ p.result.end p.ensures.fed p.ensures.same p.ensures.read put.0 put.1 put.2.1 input in
    let n = c.in-Ok.len in
    record {
      from = omega arith;
      within = c.in-Ok.ensures.bound.0;
      long = c.take.auto.buf ∙ i.long;
      space = omega (arith, p.auto.out, i.space);
      ready = p.ensures.ready;
      text = λ needs. p.ensures.same.keeps ∙ i.text needs;
      source_unfailed = search rules;
      sink_unfailed = put.2.0;
      source_open = search rules;
      at_end = λ e. c.in-Ok.ensures.bytes.1 (eqb-true n 0 e) (omega (arith, c.requires.chunk, i.long, c.take.auto.buf));
      run = run-taken c.args.reading.now p.new.reading c.args.to c.pieces.is_last c.pieces.counter _ _ _ _ _ run c.if-is_last.false c.take.new.buf n c.in-Ok.ensures.bound.0 c.in-Ok.ensures.bytes.0;
    }

pub returns-clause-run : goal.returns-clause-run
returns-clause-run g c = run-long c.args.reading.now c.pieces.reading c.args.to c.pieces.is_last _ c.pieces.counter _ _ _ _ c.pieces.invariant.run (omega (arith, c.pieces-test.false)) _ c.pieces.invariant.source_open
