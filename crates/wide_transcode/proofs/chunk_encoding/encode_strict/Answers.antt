use Rattle.std.proofs.Common.{◌≡◌, ◌≤◌, ◌/◌, ◌-◌, ◌*◌, [], Some, None, length, take, drop, refl, sym, ap, subst, arith, rules, length-take-le, length-take, length-drop}
use Rattle.std.proofs.lemmas.List.{take_all}
use Rattle.wide_utf16_to_utf8.specs.Encoded.{EncodedUnits, StopsBefore}
use Rattle.wide_transcode.specs.Encoded.{HoldsAt, IsPendingOr}
use Rattle.wide_transcode.proofs.Pending.{pending-fault, pending-or_of}
use Rattle.wide_bytes.proofs.Pairs.{length-units_in}
use Rattle.wide_transcode.proofs.UnitsPending.{encoded-bytes, shorter, stops-bytes}
use Rattle.wide_transcode.proofs.chunk_encoding.encode_strict.Goals.{in-Some, in-None}
use Rattle.wide_transcode.proofs.chunk_encoding.encode_strict.Goals as goal

pub slice_bounds-utf16_to_utf8_until_fault-end : goal.slice_bounds-utf16_to_utf8_until_fault-end
slice_bounds-utf16_to_utf8_until_fault-end c =
    let n = c.len_before_zero-ready.result / 2 in
    sym (length-take-le n c.args.units.now (omega (arith, ap length c.requires.units, length-units_in c.args.order c.args.bytes.now, c.len_before_zero-ready.ensures.within)))

pub fault_before_zero-fault-requires : goal.fault_before_zero-fault-requires
fault_before_zero-fault-requires c =
    let n = c.len_before_zero-ready.result in
    let bytes = c.args.bytes.now in
    let r = c.utf16_to_utf8_until_fault-step.result.read in
    let long : length (take n bytes) ≡ n = length-take-le n bytes c.len_before_zero-ready.ensures.within in
    let few : r ≤ n / 2 = omega (arith, c.utf16_to_utf8_until_fault-step.ensures.read, length-take (n / 2) c.args.units.now) in
    let stop : StopsBefore (drop r (take (n / 2) c.args.units.now)) None = subst (λ f. StopsBefore (drop r (take (n / 2) c.args.units.now)) f) c.in-None.is c.utf16_to_utf8_until_fault-step.ensures.stop in
    let stops = stops-bytes c.args.order bytes r n None (subst (λ us. StopsBefore (drop r (take (n / 2) us)) None) c.requires.units stop) in
    let rest : take (length bytes - 2 * r) (drop (2 * r) bytes) ≡ drop (2 * r) bytes = take_all (length bytes - 2 * r) (drop (2 * r) bytes) (omega (arith, length-drop (2 * r) bytes)) in
    subst (λ bs. IsPendingOr c.args.order bs) (sym rest) (pending-or_of c.args.order bytes (2 * r) n (omega arith) (omega arith) None refl (omega arith) c.len_before_zero-ready.ensures.some stops)

pub returns : goal.returns
returns c =
    let order = c.args.order in
    let bytes = c.args.bytes.now in
    let us = c.args.units.now in
    let n = c.len_before_zero-ready.result in
    let within = c.len_before_zero-ready.ensures.within in
    let step = c.utf16_to_utf8_until_fault-step in
    let r = step.result.read in
    let few : r ≤ n / 2 = omega (arith, step.ensures.read, length-take (n / 2) us) in
    let text = subst (λ vs. EncodedUnits vs [] (take step.result.written step.new.out)) (shorter r (n / 2) us few) step.ensures.text in
    let e = encoded-bytes order bytes us _ r _ c.requires.units (omega arith) text c.char_count-characters.ensures (λ whole. c.len_before_zero-ready.ensures.all (omega arith) (omega arith)) in
    record {
      read = omega arith;
      written = search rules;
      text = e.0;
      characters = e.1;
      few = omega (arith, e.2);
      stop = elim c.match-step.branch [
        | in-Some w ↦ (
            let stop : StopsBefore (drop r (take (n / 2) us)) (Some w.in-Some.unit) = subst (λ f. StopsBefore (drop r (take (n / 2) us)) f) w.in-Some.is step.ensures.stop in
            let stops = stops-bytes order bytes r n (Some w.in-Some.unit) (subst (λ vs. StopsBefore (drop r (take (n / 2) vs)) (Some w.in-Some.unit)) c.requires.units stop) in
            subst (λ f. HoldsAt order (drop (2 * r) bytes) f) (sym w.fault-is) (pending-fault order bytes (2 * r) n (omega arith) within (Some w.in-Some.unit) refl stops)
            )
        | in-None w ↦ (
            let rest : take (length bytes - 2 * r) (drop (2 * r) bytes) ≡ drop (2 * r) bytes = take_all (length bytes - 2 * r) (drop (2 * r) bytes) (omega (arith, length-drop (2 * r) bytes)) in
            subst (λ f. HoldsAt order (drop (2 * r) bytes) f) (sym w.fault-is) (subst (λ bs. HoldsAt order bs w.fault_before_zero-fault.result) rest w.fault_before_zero-fault.ensures)
            )
      ];
    }
