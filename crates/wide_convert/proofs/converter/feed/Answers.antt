use Rattle.std.proofs.Common.{◌≡◌, ℕ, ◌+◌, ◌-◌, ◌≤◌, List, [], ◌++◌, Bool, length, length-append, length-drop, length-take, take, drop, refl, sym, ap, ◌∙◌, subst, arith}
use borrow.Rule.Slice.PartMut.{put_mid}
use Rattle.std.proofs.lemmas.List.{take-append-le}
use Rattle.wide_forms.specs.EncodingForm.{Utf16}
use Rattle.wide_unit.specs.CodePoints.{code_points}
use Rattle.wide_schemes.specs.Layouts.{encoded}
use Rattle.wide_schemes.specs.declared.layout.Layout.{Layout}
use Rattle.wide_schemes.proofs.Puts.{put-at, put-length, rest-slice}
use Rattle.wide_convert.specs.Steps.{EndsStep, SameKind, Steps, fault_at, len_at}
use Rattle.wide_convert.specs.declared.reading.Reading.{Reading}
use Rattle.wide_convert.specs.declared.steps.StepEnd.{StepEnd}
use Rattle.wide_convert.specs.declared.steps.StepEnd.TheVariants.{More, NeedsInput, NoSpace, Fault as AtFault}
use Rattle.wide_convert.specs.Streams.{SoFar}
use Rattle.wide_convert.proofs.Feeding.{feeds-fault, feeds-input, so_far-none, so_far-then}
use Rattle.wide_convert.proofs.converter.feed.Goals as goal

pub loop-out-init : goal.loop-out-init
loop-out-init c = record {
  pivot = refl;
  within = omega arith;
  space = omega arith;
  ready = c.requires.ready;
  text = c.requires.text;
  so_far = so_far-none c.args.reading.now c.args.to c.args.input.now c.args.is_last c.requires.ready;
}

-- What was passed so far, after one more step, whose text was put after the others.
module _ (r s t : Reading) (to : Layout) (input : List ℕ) (last : Bool) (n m w put written room : ℕ) (out new pivot units : List ℕ) (end : StepEnd)
    (so_far : SoFar r s to input last n (take w out) [] 0) (same : SameKind s t) (step : Steps s t (take (length input - n) (drop n input)) last m (take written units) room end)
    (fits : written ≤ length units) (text : take put new ≡ encoded to (code_points Utf16 (take written (units ++ pivot)))) (space : w ≤ length out) (within : put ≤ length new) where
  step-rest : Steps s t (drop n input) last m (take written units) room end
  step-rest = subst (λ xs. Steps s t xs last m (take written units) room end) (rest-slice input n) step

  next : SoFar r t to input last (n + m) (take (w + put) (put_mid w (length out - w) out new)) (fault_at end) (len_at end)
  next = subst (λ xs. SoFar r t to input last (n + m) xs (fault_at end) (len_at end)) (put-at out new w put (length out - w) space within)
      (so_far-then r s t to input last n m (take w out) (take written units) (take put new) room end so_far step-rest same (text ∙ ap (λ us. encoded to (code_points Utf16 us)) (take-append-le written units pivot fits)))

-- A step at which the loop goes on is at no fault.
quiet : (end : StepEnd) → ((unit len : ℕ) → ¬ (end ≡ AtFault unit len)) → (fault_at end ≡ []) × (len_at end ≡ 0)
quiet More other = (refl, refl)
quiet NeedsInput other = (refl, refl)
quiet NoSpace other = (refl, refl)
quiet (AtFault unit len) other = absurd (other unit len refl)

pub returns-in-NeedsInput-clause-fed : goal.returns-in-NeedsInput-clause-fed
returns-in-NeedsInput-clause-fed c =
    let step = c.read_step-step in
    let put = c.put_text-written in
    let i = c.loop-out.invariant in
    let r = c.args.reading.now in
    let t = step.new.reading in
    let input = c.args.input.now in
    let n = c.loop-out.read in
    let so_far = next r c.loop-out.reading t c.args.to input c.args.is_last n step.result.read c.loop-out.written put.result step.result.written _ c.loop-out.out put.new.out _ step.new.units step.result.end i.so_far step.ensures.same step.ensures.steps step.ensures.written put.ensures.text i.space put.ensures.within in
    let here = subst (λ e. SoFar r t c.args.to input c.args.is_last (n + step.result.read) (take (c.loop-out.written + put.result) (put_mid c.loop-out.written (length c.loop-out.out - c.loop-out.written) c.loop-out.out put.new.out)) (fault_at e) (len_at e)) c.in-NeedsInput.is so_far in
    let ends = subst (EndsStep c.loop-out.reading t (take (length input - n) (drop n input)) c.args.is_last step.result.read (length step.new.units - step.result.written)) c.in-NeedsInput.is step.ensures.steps.ends in
    feeds-input r t c.args.to input c.args.is_last (n + step.result.read) _ _ here (omega (arith, ends.0, length-take (length input - n) (drop n input), length-drop n input, i.within)) ends.1.0 ends.1.1

pub returns-in-Fault : goal.returns-in-Fault
returns-in-Fault c =
    let step = c.read_step-step in
    let put = c.put_text-written in
    let i = c.loop-out.invariant in
    let r = c.args.reading.now in
    let t = step.new.reading in
    let input = c.args.input.now in
    let n = c.loop-out.read in
    let w = c.loop-out.written in
    let out = c.loop-out.out in
    let so_far = next r c.loop-out.reading t c.args.to input c.args.is_last n step.result.read w put.result step.result.written _ out put.new.out _ step.new.units step.result.end i.so_far step.ensures.same step.ensures.steps step.ensures.written put.ensures.text i.space put.ensures.within in
    let here = subst (λ e. SoFar r t c.args.to input c.args.is_last (n + step.result.read) (take (w + put.result) (put_mid w (length out - w) out put.new.out)) (fault_at e) (len_at e)) c.in-Fault.is so_far in
    let ends = subst (EndsStep c.loop-out.reading t (take (length input - n) (drop n input)) c.args.is_last step.result.read (length step.new.units - step.result.written)) c.in-Fault.is step.ensures.steps.ends in
    let long : length (put_mid w (length out - w) out put.new.out) ≡ length out = put-length out put.new.out w (length out - w) (omega (arith, i.space)) (omega (arith, put.auto.out, length-take (length out - w) (drop w out), length-drop w out)) in
    record {
      read = omega (arith, step.ensures.read, length-take (length input - n) (drop n input), length-drop n input, i.within);
      written = omega (arith, put.ensures.within, put.auto.out, length-take (length out - w) (drop w out), length-drop w out, long, i.space);
      ready = step.ensures.ready;
      same = record { scheme = step.ensures.same.scheme ∙ i.so_far.same.scheme; keeps = step.ensures.same.keeps ∙ i.so_far.same.keeps; policy = step.ensures.same.policy ∙ i.so_far.same.policy };
      fed = feeds-fault r t c.args.to input c.args.is_last (n + step.result.read) _ _ c.in-Fault.unit c.in-Fault.len here (sym i.so_far.same.policy ∙ ends.0) ends.1.0 ends.1.1 c.fault_before.result c.fault_before.ensures;
    }

pub loop-out-preserved : goal.loop-out-preserved
loop-out-preserved c =
    let step = c.read_step-step in
    let put = c.put_text-written in
    let i = c.loop-out.invariant in
    let r = c.args.reading.now in
    let t = step.new.reading in
    let input = c.args.input.now in
    let n = c.loop-out.read in
    let w = c.loop-out.written in
    let out = c.loop-out.out in
    let so_far = next r c.loop-out.reading t c.args.to input c.args.is_last n step.result.read w put.result step.result.written _ out put.new.out _ step.new.units step.result.end i.so_far step.ensures.same step.ensures.steps step.ensures.written put.ensures.text i.space put.ensures.within in
    let calm = quiet step.result.end c.in_default-end.not-Fault in
    let long : length (put_mid w (length out - w) out put.new.out) ≡ length out = put-length out put.new.out w (length out - w) (omega (arith, i.space)) (omega (arith, put.auto.out, length-take (length out - w) (drop w out), length-drop w out)) in
    record {
      pivot = omega (arith, length-append step.new.units (drop c.pivot_len-space.result c.loop-out.pivot), step.auto.units, length-take c.pivot_len-space.result c.loop-out.pivot, length-drop c.pivot_len-space.result c.loop-out.pivot, i.pivot, c.pivot_len-space.ensures.few);
      within = omega (arith, step.ensures.read, length-take (length input - n) (drop n input), length-drop n input, i.within);
      space = omega (arith, put.ensures.within, put.auto.out, length-take (length out - w) (drop w out), length-drop w out, long, i.space);
      ready = step.ensures.ready;
      text = λ needs. step.ensures.same.keeps ∙ i.text needs;
      so_far = subst (λ fs. SoFar r t c.args.to input c.args.is_last (n + step.result.read) (take (w + put.result) (put_mid w (length out - w) out put.new.out)) fs 0) calm.0
          (subst (λ len. SoFar r t c.args.to input c.args.is_last (n + step.result.read) (take (w + put.result) (put_mid w (length out - w) out put.new.out)) (fault_at step.result.end) len) calm.1 so_far);
    }
