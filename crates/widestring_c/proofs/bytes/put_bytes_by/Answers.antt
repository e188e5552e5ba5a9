use Rattle.std.proofs.Common.{◌≡◌, ◌++◌, ◌/◌, ◌<◌, ℕ, List, [], ap, sym, ◌∙◌, subst, arith, length, map, take, drop}
use Rattle.std.proofs.lemmas.List.{map-id}
use Rattle.wide_bytes.specs.Bytes.{units_in}
use Rattle.wide_transcode.specs.Lossied.{units_end_in_fault, lossy_text}
use Rattle.widestring_c.proofs.Buffers.{Writing, after_more, counted_prefix, one_more, written_all}
use Rattle.widestring_c.proofs.ChunkUnits.{no_text-left, text-parted}
use Rattle.widestring_c.proofs.bytes.put_bytes_by.Goals as goal

pub chunks-preserved : goal.chunks-preserved
chunks-preserved c =
    let o = c.args.order in
    let policy = c.args.policy in
    let after = c.chunks.after in
    let rest = c.chunks.rest.now in
    let n = c.chunk_len.result in
    let e = c.chunk_len.ensures in
    let put = c.put_lossy_after-at in
    let all = lossy_text policy c.args.after_fault (units_in o c.args.bytes.now) in
    let prefix = units_in o (take n rest) in
    let back = units_in o c.split_at.result.1.now in
    let read : List ℕ = take (length c.split_at.result.0.now / 2) c.fill_units.new.units in
    let is : read ≡ prefix = c.fill_units.ensures ∙ ap (λ bs. units_in o bs) c.split_at.ensures.front in
    let chunk = lossy_text policy after (map (λ (u : ℕ). u) read) in
    let text : lossy_text policy after prefix ≡ chunk = ap (λ us. lossy_text policy after us) (sym (map-id read ∙ is)) in
    let left = lossy_text policy c.ends_in_fault-after.result back in
    let beyond : lossy_text policy (units_end_in_fault after prefix) (units_in o (drop n rest)) ≡ left =
    ap (λ f. lossy_text policy f (units_in o (drop n rest))) (sym (c.ends_in_fault-after.ensures ∙ ap (λ us. units_end_in_fault after us) is)) ∙ ap (λ bs. lossy_text policy c.ends_in_fault-after.result (units_in o bs)) (sym c.split_at.ensures.back)
    in
    let parts : lossy_text policy after (units_in o rest) ≡ chunk ++ left =
    text-parted policy after o rest n e.even e.within e.cut ∙ ap (λ bs. bs ++ lossy_text policy (units_end_in_fault after prefix) (units_in o (drop n rest))) text ∙ ap (λ bs. chunk ++ bs) beyond
    in
    let before : Writing all c.chunks.at c.chunks.text (chunk ++ left) = subst (λ bs. Writing all c.chunks.at c.chunks.text bs) parts c.chunks.invariant.so_far in
    record {
      so_far = one_more [] 0 all c.chunks.text put.new.text chunk left c.chunks.at put.result before put.ensures.offset put.ensures.text put.ensures.space;
      space = put.ensures.space ∙ c.chunks.invariant.space;
      beyond = after_more c.args.text.now c.chunks.text put.new.text (length chunk) c.chunks.at put.result before.most put.ensures.offset c.chunks.invariant.beyond put.ensures.beyond;
    }

pub returns-clause-len : goal.returns-clause-len
returns-clause-len c =
    let all = lossy_text c.args.policy c.args.after_fault (units_in c.args.order c.args.bytes.now) in
    let short : length c.chunks.rest.now < 2 = omega (arith, c.chunks-test.false) in
    counted_prefix all c.chunks.text c.chunks.at (subst (λ bs. Writing all c.chunks.at c.chunks.text bs) (no_text-left c.args.policy c.chunks.after c.args.order c.chunks.rest.now short) c.chunks.invariant.so_far)

pub returns-clause-text : goal.returns-clause-text
returns-clause-text c = λ fits.
    let all = lossy_text c.args.policy c.args.after_fault (units_in c.args.order c.args.bytes.now) in
    let short : length c.chunks.rest.now < 2 = omega (arith, c.chunks-test.false) in
    written_all [] 0 all c.chunks.text c.chunks.at (subst (λ bs. Writing all c.chunks.at c.chunks.text bs) (no_text-left c.args.policy c.chunks.after c.args.order c.chunks.rest.now short) c.chunks.invariant.so_far) (omega (arith, fits, c.chunks.invariant.space))
