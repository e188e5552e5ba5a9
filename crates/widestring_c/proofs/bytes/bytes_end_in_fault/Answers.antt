use Rattle.std.proofs.Common.{◌+◌, ◌≤◌, [], ap, sym, ◌∙◌, arith, length, take, drop}
use Rattle.wide_forms.specs.EncodingForm.{Utf16}
use Rattle.wide_forms.specs.Laws.Items.{IsCut}
use Rattle.wide_bytes.specs.Bytes.{units_in}
use Rattle.wide_transcode.specs.Lossied.{units_end_in_fault}
use Rattle.widestring_c.proofs.ChunkUnits.{cut-before_none, ends-beyond, none-last}
use Rattle.widestring_c.proofs.bytes.bytes_end_in_fault.Goals as goal

pub returns-then-bytes-lt2 : goal.returns-then-bytes-lt2
returns-then-bytes-lt2 c = none-last c.args.after_fault c.args.order c.args.bytes.now c.if-bytes-lt2.true

pub returns : goal.returns
returns c =
    let o = c.args.order in
    let bytes = c.args.bytes.now in
    let n = c.len_before_high_surrogate.result in
    let e = c.len_before_high_surrogate.ensures in
    let cut : IsCut Utf16 (units_in o (take n bytes)) (units_in o (drop n bytes)) = cut-before_none o (units_in o (take n bytes)) (drop n bytes) (e.cut []) in
    let within : n + 2 ≤ length bytes = omega (arith, e.within, c.if-bytes-lt2.false) in
    c.ends_in_fault.ensures ∙ ap (λ us. units_end_in_fault c.args.after_fault us) (c.fill_units.ensures ∙ ap (λ bs. units_in o bs) c.split_at.ensures.back) ∙ sym (ends-beyond c.args.after_fault o bytes n e.even within cut)
