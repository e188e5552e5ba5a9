use Rattle.std.proofs.Common.{ap, sym, ◌∙◌}
use Rattle.std.proofs.lemmas.List.{append-nil}
use Rattle.wide_forms.specs.Utf8.{utf8_bytes}
use Rattle.wide_transcode.proofs.Lossied.{fault_text}
use Rattle.wide_transcode.proofs.LossyEnds.{end-fault_text, end-zero, end-short}
use Rattle.wide_transcode.proofs.lossy.encode_end.Goals.{then-rest-lt2-via-then-rest-lt2, then-rest-lt2-via-else-rest-lt2+then-unit_in-eq0}
use Rattle.wide_transcode.proofs.lossy.encode_end.Goals as goal

pub returns-then-rest-lt2-clause-text : goal.returns-then-rest-lt2-clause-text
returns-then-rest-lt2-clause-text c = elim c.then-rest-lt2.branch [
  | then-rest-lt2-via-then-rest-lt2 w ↦ end-short c.args.order c.args.policy c.args.after_fault c.args.rest.now w.if-rest-lt2.true
  | then-rest-lt2-via-else-rest-lt2+then-unit_in-eq0 w ↦ end-zero c.args.order c.args.policy c.args.after_fault c.args.rest.now w.unit_in.result c.requires.pending w.if-rest-lt2.false w.unit_in.ensures w.if-unit_in-eq0.true
]

pub returns-in-Some-clause-text : goal.returns-in-Some-clause-text
returns-in-Some-clause-text c =
    c.put_unit.ensures.text ∙ sym (append-nil (utf8_bytes c.in-Some.character)) ∙ ap fault_text (sym c.in-Some.is ∙ c.replacement.ensures)
    ∙ sym (end-fault_text c.args.order c.args.policy c.args.after_fault c.args.rest.now c.unit_in.result c.requires.pending c.if-rest-lt2.false c.unit_in.ensures c.if-unit_in-eq0.false)

pub returns-in-None-clause-text : goal.returns-in-None-clause-text
returns-in-None-clause-text c =
    ap fault_text (sym c.in-None.is ∙ c.replacement.ensures)
    ∙ sym (end-fault_text c.args.order c.args.policy c.args.after_fault c.args.rest.now c.unit_in.result c.requires.pending c.if-rest-lt2.false c.unit_in.ensures c.if-unit_in-eq0.false)
