use Rattle.std.proofs.Common.{◌≡◌, ◌+◌, ◌-◌, ◌≤◌, ◌<◌, ◌∙◌, false, length, length-drop, length-take, take, drop, ap, subst, arith}
use borrow.Rule.Slice.PartMut.{put_mid}
use Rattle.std.specs.Prelude.{IfSome}
use Rattle.std.proofs.lemmas.List.{drop-drop, take_rest}
use Rattle.wide_schemes.specs.Decoded.{BeginsWithNoScalar}
use Rattle.wide_schemes.specs.Layouts.{StopsBefore}
use Rattle.wide_schemes.specs.declared.layout.Layout.TheVariants.{Utf32}
use Rattle.wide_schemes.proofs.Parts32.{no_scalar-begins, part-decodes, part-none, part-put, part-well_formed}
use Rattle.wide_schemes.proofs.ReadBytes.{part-bytes32}
use Rattle.wide_schemes.proofs.Puts.{put-length}
use Rattle.wide_schemes.proofs.utf32.decode_utf32.Goals.{then-loop-read-test+else-units-written-ge2, else-loop-read-test}
use Rattle.wide_schemes.proofs.utf32.decode_utf32.Goals as goal

pub loop-read-init : goal.loop-read-init
loop-read-init c = record { block = omega arith; space = omega arith; part = part-none c.args.order c.args.bytes.now }

pub loop-read-preserved : goal.loop-read-preserved
loop-read-preserved c =
    let w = c.loop-read.written in
    let units = c.loop-read.units in
    let step = c.decode_block-step in
    let part : length step.new.units ≡ length units - w = omega (arith, step.auto.units, length-take (length units - w) (drop w units), length-drop w units) in
    let long : length (put_mid w (length units - w) units step.new.units) ≡ length units = put-length units step.new.units w (length units - w) (omega (arith, c.loop-read.invariant.space)) part in
    record {
      block = omega (arith, c.loop-read.invariant.block, step.auto.block);
      space = omega (arith, step.ensures.written, part, long, c.loop-read.invariant.space);
      part = part-put c.args.order c.args.bytes.now c.loop-read.read w step.result.read step.result.written units step.new.units c.loop-read.invariant.space step.ensures.written c.loop-read.invariant.part step.ensures.part;
    }

pub returns-in-Some-clause-items : goal.returns-in-Some-clause-items
returns-in-Some-clause-items c =
    let step = c.decode_block-step in
    let order = c.args.order in
    let bytes = c.args.bytes.now in
    part-decodes order bytes (c.loop-read.read + step.result.read) _ (part-put order bytes c.loop-read.read c.loop-read.written step.result.read step.result.written c.loop-read.units step.new.units c.loop-read.invariant.space step.ensures.written c.loop-read.invariant.part step.ensures.part) c.args.is_last

pub returns-in-Some-clause-well_formed : goal.returns-in-Some-clause-well_formed
returns-in-Some-clause-well_formed c =
    let step = c.decode_block-step in
    let order = c.args.order in
    let bytes = c.args.bytes.now in
    part-well_formed order bytes (c.loop-read.read + step.result.read) _ (part-put order bytes c.loop-read.read c.loop-read.written step.result.read step.result.written c.loop-read.units step.new.units c.loop-read.invariant.space step.ensures.written c.loop-read.invariant.part step.ensures.part)

pub returns-in-Some-clause-stop : goal.returns-in-Some-clause-stop
returns-in-Some-clause-stop c =
    let n = c.loop-read.read in
    let bytes = c.args.bytes.now in
    let step = c.decode_block-step in
    let order = c.args.order in
    let rest = take (length bytes - n) (drop n bytes) in
    let begins : BeginsWithNoScalar order (drop step.result.read rest) c.in-Some.unit = subst (λ f. IfSome f (λ u. BeginsWithNoScalar order (drop step.result.read rest) u)) c.in-Some.is step.ensures.fault in
    let same : drop step.result.read rest ≡ drop (n + step.result.read) bytes = ap (drop step.result.read) (take_rest bytes n) ∙ drop-drop step.result.read n bytes in
    no_scalar-begins order (drop (n + step.result.read) bytes) c.args.is_last c.in-Some.unit (subst (λ xs. BeginsWithNoScalar order xs c.in-Some.unit) same begins)

pub returns-clause-items : goal.returns-clause-items
returns-clause-items c = part-decodes c.args.order c.args.bytes.now c.loop-read.read _ c.loop-read.invariant.part c.args.is_last

pub returns-clause-well_formed : goal.returns-clause-well_formed
returns-clause-well_formed c = part-well_formed c.args.order c.args.bytes.now c.loop-read.read _ c.loop-read.invariant.part

pub returns-clause-stop : goal.returns-clause-stop
returns-clause-stop c =
    let n = c.loop-read.read in
    let bytes = c.args.bytes.now in
    let order = c.args.order in
    let room = length c.loop-read.units - c.loop-read.written in
    let rest = take_rest bytes n in
    let enough : 4 ≤ length (take (length bytes - n) (drop n bytes)) → room < 2 = λ more. elim c.loop-read-test.branch [
      | then-loop-read-test+else-units-written-ge2 w ↦ omega (arith, w.if-units-written-ge2.false)
      | else-loop-read-test w ↦ absurd (omega (arith, more, w.loop-read-test.false, ap length rest, length-drop n bytes))
    ] in
    subst (λ xs. StopsBefore (Utf32 order) false false xs c.args.is_last room c.stop_before.result) rest (c.stop_before.ensures order c.args.is_last room enough)

pub returns-in-Some-clause-bytes : goal.returns-in-Some-clause-bytes
returns-in-Some-clause-bytes c =
    let step = c.decode_block-step in
    let order = c.args.order in
    let bytes = c.args.bytes.now in
    part-bytes32 order bytes _ (c.loop-read.read + step.result.read) c.type_inv.bytes (part-put order bytes c.loop-read.read c.loop-read.written step.result.read step.result.written c.loop-read.units step.new.units c.loop-read.invariant.space step.ensures.written c.loop-read.invariant.part step.ensures.part)

pub returns-clause-bytes : goal.returns-clause-bytes
returns-clause-bytes c = part-bytes32 c.args.order c.args.bytes.now _ c.loop-read.read c.type_inv.bytes c.loop-read.invariant.part
