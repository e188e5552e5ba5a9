use Rattle.std.proofs.Common.{◌≡◌, ℕ, ◌+◌, ◌-◌, ◌≤◌, List, Bool, length, length-drop, length-take, take, drop, ap, subst, arith}
use borrow.Rule.Slice.PartMut.{put_mid}
use Rattle.wide_schemes.specs.PointRuns.{IsPointRun}
use Rattle.wide_schemes.proofs.PointRuns.{run-decodes, run-state, run-then, run-well_formed}
use Rattle.wide_schemes.proofs.Puts.{put-at, put-length, rest-slice}
use Rattle.wide_schemes.proofs.ReadBytes.{run-bytes}
use Rattle.wide_schemes.proofs.wtf8.decode_wtf8.Goals as goal

pub decode_run-run-requires : goal.decode_run-run-requires
decode_run-run-requires c keeps = run-state c.args.keeps c.args.after_high c.runs.after_high c.args.bytes.now (take c.runs.written c.runs.units) c.runs.read c.runs.invariant.run keeps (c.requires keeps)

-- The runs before a run, and that run.
both : (keeps h h' h'' : Bool) (bs units more : List ℕ) (read written n w : ℕ) → written ≤ length units → w ≤ length more → IsPointRun keeps h bs read (take written units) h' → IsPointRun keeps h' (take (length bs - read) (drop read bs)) n (take w more) h''
    → IsPointRun keeps h bs (read + n) (take (written + w) (put_mid written (length units - written) units more)) h''
both keeps h h' h'' bs units more read written n w space fits one other =
    let next : IsPointRun keeps h' (drop read bs) n (take w more) h'' = subst (λ xs. IsPointRun keeps h' xs n (take w more) h'') (rest-slice bs read) other in
    subst (λ us. IsPointRun keeps h bs (read + n) us h'') (put-at units more written w (length units - written) space fits) (run-then keeps h h' h'' bs (take written units) (take w more) read n one next)

pub returns-in-Some-clause-items : goal.returns-in-Some-clause-items
returns-in-Some-clause-items c =
    let e = c.decode_run-run.ensures in
    let i = c.runs.invariant in
    run-decodes c.args.keeps c.args.after_high c.decode_run-run.result.after_high c.args.bytes.now _ _ c.args.is_last
    (both c.args.keeps c.args.after_high c.runs.after_high c.decode_run-run.result.after_high c.args.bytes.now c.runs.units c.decode_run-run.new.units c.runs.read c.runs.written c.decode_run-run.result.read c.decode_run-run.result.written i.space e.written i.run e.run) c.requires

pub returns-in-Some-clause-state : goal.returns-in-Some-clause-state
returns-in-Some-clause-state c keeps =
    let e = c.decode_run-run.ensures in
    let i = c.runs.invariant in
    run-state c.args.keeps c.args.after_high c.decode_run-run.result.after_high c.args.bytes.now _ _
    (both c.args.keeps c.args.after_high c.runs.after_high c.decode_run-run.result.after_high c.args.bytes.now c.runs.units c.decode_run-run.new.units c.runs.read c.runs.written c.decode_run-run.result.read c.decode_run-run.result.written i.space e.written i.run e.run) keeps (c.requires keeps)

pub returns-in-Some-clause-well_formed : goal.returns-in-Some-clause-well_formed
returns-in-Some-clause-well_formed c keeps =
    let e = c.decode_run-run.ensures in
    let i = c.runs.invariant in
    run-well_formed c.args.keeps c.args.after_high c.decode_run-run.result.after_high c.args.bytes.now _ _
    (both c.args.keeps c.args.after_high c.runs.after_high c.decode_run-run.result.after_high c.args.bytes.now c.runs.units c.decode_run-run.new.units c.runs.read c.runs.written c.decode_run-run.result.read c.decode_run-run.result.written i.space e.written i.run e.run) keeps

pub runs-preserved : goal.runs-preserved
runs-preserved c =
    let e = c.decode_run-run.ensures in
    let i = c.runs.invariant in
    let bs = c.args.bytes.now in
    let units = c.runs.units in
    let w = c.runs.written in
    let more = c.decode_run-run.new.units in
    let part : length more ≡ length units - w = omega (arith, c.decode_run-run.auto.units, length-take (length units - w) (drop w units), length-drop w units) in
    let long : length (put_mid w (length units - w) units more) ≡ length units = put-length units more w (length units - w) (omega (arith, i.space)) part in
    record {
      within = omega (arith, e.read, ap length (rest-slice bs c.runs.read), length-drop c.runs.read bs, i.within);
      space = omega (arith, e.written, part, long, i.space);
      run = both c.args.keeps c.args.after_high c.runs.after_high c.decode_run-run.result.after_high bs units more c.runs.read w c.decode_run-run.result.read c.decode_run-run.result.written i.space e.written i.run e.run;
    }

pub returns-in-Some-clause-bytes : goal.returns-in-Some-clause-bytes
returns-in-Some-clause-bytes c =
    let e = c.decode_run-run.ensures in
    let i = c.runs.invariant in
    run-bytes c.args.keeps c.args.after_high c.decode_run-run.result.after_high c.args.bytes.now _ _
    (both c.args.keeps c.args.after_high c.runs.after_high c.decode_run-run.result.after_high c.args.bytes.now c.runs.units c.decode_run-run.new.units c.runs.read c.runs.written c.decode_run-run.result.read c.decode_run-run.result.written i.space e.written i.run e.run)
