use Rattle.std.proofs.Common.{refl, arith}
use Rattle.wide_forms.specs.EncodingForm.{Utf16}
use Rattle.wide_forms.specs.Items.{chars}
use Rattle.wide_utfstr.specs.View.{units_seen}
use Rattle.wide_offset_index.proofs.Neighbors.{apart, single-units}
use Rattle.wide_offset_index.proofs.passing.between.Goals as goal

pub overflow_sub-high : goal.overflow_sub-high
overflow_sub-high c =
    let r = c.requires in
    omega (arith, r.low, r.high, r.after, r.before, (apart (chars Utf16 (units_seen c.args.text)) c.args.low.0 c.args.high.0 (omega (arith, r.after, r.before)) r.within).least)

pub returns-then-high-low-clause-offset : goal.returns-then-high-low-clause-offset
returns-then-high-low-clause-offset c =
    let r = c.requires in
    let cs = chars Utf16 (units_seen c.args.text) in
    let far = (apart cs c.args.low.0 c.args.high.0 (omega (arith, r.after, r.before)) r.within).least in
    omega (arith, r.low, r.after, single-units cs c.args.low.0 c.args.to c.args.high.0 r.after r.before r.within (omega (arith, r.low, r.high, far, c.if-high-low.true, r.after, r.before)))

pub returns-then-passed-left-clause-on : goal.returns-then-passed-left-clause-on
returns-then-passed-left-clause-on c =
    let r = c.requires in
    let far = apart (chars Utf16 (units_seen c.args.text)) c.args.low.0 c.args.to r.after (omega (arith, r.before, r.within)) in
    omega (arith, r.low, r.after, far.least, far.most, c.pass_on.ensures.offset, c.pass_on.ensures.steps)

pub returns-then-passed-left-clause-back : goal.returns-then-passed-left-clause-back
returns-then-passed-left-clause-back c =
    let r = c.requires in
    let far = apart (chars Utf16 (units_seen c.args.text)) c.args.low.0 c.args.to r.after (omega (arith, r.before, r.within)) in
    omega (arith, r.low, r.after, r.before, c.if-passed-left.true, far.least, far.most, c.pass_on.ensures.offset, c.pass_on.ensures.steps)

pub returns-else-passed-left-clause-on : goal.returns-else-passed-left-clause-on
returns-else-passed-left-clause-on c =
    let r = c.requires in
    let far = apart (chars Utf16 (units_seen c.args.text)) c.args.to c.args.high.0 r.before r.within in
    omega (arith, r.high, r.after, r.before, c.if-passed-left.false, far.least, far.most, c.pass_back.ensures.offset, c.pass_back.ensures.steps)

pub returns-else-passed-left-clause-back : goal.returns-else-passed-left-clause-back
returns-else-passed-left-clause-back c =
    let r = c.requires in
    let far = apart (chars Utf16 (units_seen c.args.text)) c.args.to c.args.high.0 r.before r.within in
    omega (arith, r.high, r.before, far.least, far.most, c.pass_back.ensures.offset, c.pass_back.ensures.steps)

pub returns-then-high-low-clause-passes : goal.returns-then-high-low-clause-passes
returns-then-high-low-clause-passes c =
    let r = c.requires in
    let far = (apart (chars Utf16 (units_seen c.args.text)) c.args.low.0 c.args.high.0 (omega (arith, r.after, r.before)) r.within).least in record {
      none = λ _. refl;
      on = λ more _. absurd (omega (arith, r.low, r.high, r.after, r.before, far, c.if-high-low.true, more));
      back = λ more _. absurd (omega (arith, r.low, r.high, r.after, r.before, far, c.if-high-low.true, more));
    }

pub returns-then-passed-left-clause-passes : goal.returns-then-passed-left-clause-passes
returns-then-passed-left-clause-passes c =
    let r = c.requires in
    let far = (apart (chars Utf16 (units_seen c.args.text)) c.args.low.0 c.args.high.0 (omega (arith, r.after, r.before)) r.within).least in record {
      none = λ same. absurd (omega (arith, r.low, r.high, r.after, r.before, far, c.if-high-low.false, same));
      on = λ _ _. omega (arith, r.low, c.pass_on.ensures.offset, c.pass_on.ensures.steps);
      back = λ _ near. absurd (omega (arith, c.if-passed-left.true, near));
    }

pub returns-else-passed-left-clause-passes : goal.returns-else-passed-left-clause-passes
returns-else-passed-left-clause-passes c =
    let r = c.requires in
    let far = (apart (chars Utf16 (units_seen c.args.text)) c.args.low.0 c.args.high.0 (omega (arith, r.after, r.before)) r.within).least in record {
      none = λ same. absurd (omega (arith, r.low, r.high, r.after, r.before, far, c.if-high-low.false, same));
      on = λ _ near. absurd (omega (arith, c.if-passed-left.false, near));
      back = λ _ _. omega (arith, r.high, c.pass_back.ensures.offset, c.pass_back.ensures.steps);
    }
