use Rattle.std.proofs.Common.{◌≡◌, ◌+◌, ◌-◌, ◌++◌, ◌∙◌, ap, sym, subst, arith, length, length-drop, length-take, length-take-le, take, drop}
use Rattle.wide_schemes.specs.Wtf8.{wtf8}
use Rattle.wide_schemes.proofs.Puts.{put-at, put-length, rest-slice}
use Rattle.wide_wtf8.proofs.Parts.{all-written, next-part}
use Rattle.wide_wtf8.proofs.encoding.write_wtf8.Goals as goal

pub parts-preserved : goal.parts-preserved
parts-preserved c =
    let i = c.parts.invariant in
    let e = c.in-Some.ensures in
    let us = c.args.units.now in
    let read = c.parts.read in
    let out = c.parts.out in
    let at = c.parts.written in
    let step = c.in-Some.step in
    let more = c.put_part.new.out in
    let rest = rest-slice us read in
    let part : length more ≡ length out - at = omega (arith, c.put_part.auto.out, length-take (length out - at) (drop at out), length-drop at out) in
    let here : wtf8 (drop read us) ≡ take step.written more ++ wtf8 (drop step.read (drop read us)) = subst (λ xs. wtf8 xs ≡ take step.written more ++ wtf8 (drop step.read xs)) rest e.text in
    record {
      within = omega (arith, e.read, ap length rest, length-drop read us, i.within);
      room = omega (arith, e.written, part, i.room, put-length out more at (length out - at) (omega (arith, i.room)) part);
      long = put-length out more at (length out - at) (omega (arith, i.room)) part ∙ i.long;
      text = next-part (wtf8 us) (take at out) (take step.written more) us read step.read i.text here ∙ ap (λ bs. bs ++ wtf8 (drop (read + step.read) us)) (put-at out more at step.written (length out - at) i.room e.written);
    }

pub returns-clause-text : goal.returns-clause-text
returns-clause-text c = all-written c.args.units.now c.parts.read (wtf8 c.args.units.now) _ (omega (arith, c.parts-test.false)) c.parts.invariant.text

pub returns-clause-len : goal.returns-clause-len
returns-clause-len c =
    sym (length-take-le c.parts.written c.parts.out c.parts.invariant.room) ∙ ap length (all-written c.args.units.now c.parts.read (wtf8 c.args.units.now) _ (omega (arith, c.parts-test.false)) c.parts.invariant.text)
