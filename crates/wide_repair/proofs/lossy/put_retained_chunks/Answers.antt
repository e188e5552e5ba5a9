use Rattle.std.proofs.Common.{◌≡◌, ◌∙◌, ◌++◌, ◌+◌, ◌-◌, ◌≤◌, ap, arith, length, take, drop, length-take, length-drop}
use borrow.Rule.Slice.PartMut.{put_mid}
use Rattle.wide_repair.proofs.LossyChunks.{all-chunks, chunk-passed, lossy_units, put-beyond, put-length}
use Rattle.wide_repair.proofs.lossy.put_retained_chunks.Goals as goal

pub chunks-preserved : goal.chunks-preserved
chunks-preserved c =
    let rest = c.chunks.rest.now in
    let n = c.uncut_len.result in
    let e = c.split_at.ensures in
    let put = c.put_chunk-at in
    let text = c.chunks.text in
    let at = c.chunks.at in
    let before = take at text in
    let now = take (at + put.result) (put_mid at (length text - at) text put.new.text) in
    let within : at ≤ length text = omega (arith, c.chunks.invariant.within, c.chunks.invariant.space, c.requires.space) in
    let part : length put.new.text ≡ length text - at = omega (arith, within, put.auto.text, length-take (length text - at) (drop at text), length-drop at text) in
    record {
      within = omega (arith, c.chunks.invariant.within, put.ensures.within, e.front_len, e.back_len);
      space = put-length text put.new.text at (length text - at) (omega (arith, within)) part ∙ c.chunks.invariant.space;
      repaired = omega (arith, c.repair_16.auto.repaired, c.chunks.invariant.repaired);
      so_far = chunk-passed c.args.policy (lossy_units c.args.policy c.args.after_fault c.args.units.now) before now c.chunks.is_after c.ends_in_fault-is_after.result rest c.split_at.result.0.now c.split_at.result.1.now n
          c.chunks.invariant.so_far e.front e.back c.uncut_len.ensures.cut c.ends_in_fault-is_after.ensures
          (put-beyond text put.new.text at put.result (length text - at) within (omega (arith, put.ensures.within, part, e.front_len, c.chunks.invariant.within, e.back_len, c.chunks.invariant.space, c.requires.space)) ∙ ap (λ us. before ++ us) put.ensures.text);
    }

pub returns-clause-text : goal.returns-clause-text
returns-clause-text c = all-chunks c.args.policy _ _ c.chunks.is_after c.chunks.rest.now (grind (arith, c.is_empty.ensures, c.chunks-test.false)) c.chunks.invariant.so_far
