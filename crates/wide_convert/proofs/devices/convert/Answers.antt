use Rattle.std.proofs.Common.{Err, ◌∙◌, ap, subst}
use Rattle.wide_convert.specs.Converting.{bom_bytes}
use Rattle.std.proofs.lemmas.Result.{err_from_is_err_and}
use Rattle.wide_convert.specs.Steps.{IsUnread}
use Rattle.wide_convert.proofs.Ends.{run-bom, run-error, run-ok}
use Rattle.wide_convert.proofs.devices.convert.Goals as goal

pub returns-in_err-put_converted-clause-run : goal.returns-in_err-put_converted-clause-run
returns-in_err-put_converted-clause-run g c =
    let put = c.in_err-put_converted.ensures in
    let e = err_from_is_err_and c.from_residual.result c.from_residual.ensures.1 in
    run-bom c.args.from c.args.to c.args.policy c.args.bom (Unit {0}) c.from_residual.result _ _ _ _ _ _ put.0 _ (e.1 ∙ ap (λ x. Err x) e.2) put.2 (c.put_bom-len.ensures.text ∙ ap (λ l. bom_bytes l c.args.bom) c.layout_to-layout.ensures) put.1

pub returns-in_err-stream-clause-run : goal.returns-in_err-stream-clause-run
returns-in_err-stream-clause-run g c =
    let put = c.in_ok-put_converted.ensures in
    let e = err_from_is_err_and c.from_residual-in_err-stream.result c.from_residual-in_err-stream.ensures.1 in
    let new = subst (λ k. IsUnread c.args.from k c.args.policy c.new-reading.result) c.keeps_halves.ensures c.new-reading.ensures.unread in
    run-error c.args.from c.args.to c.args.policy c.args.bom c.new-reading.result c.stream.new.reading new c.stream.ensures.ready _ c.layout_to-layout.result c.layout_to-layout.ensures _ _ _ _ _ put.0 (put.2.1 ∙ c.put_bom-len.ensures.text) put.1 (Unit {0}) _ c.from_residual-in_err-stream.result (e.1 ∙ ap (λ x. Err x) e.2) c.in_err-stream.ensures.run

pub returns-clause-run : goal.returns-clause-run
returns-clause-run g c =
    let put = c.in_ok-put_converted.ensures in
    let new = subst (λ k. IsUnread c.args.from k c.args.policy c.new-reading.result) c.keeps_halves.ensures c.new-reading.ensures.unread in
    run-ok c.args.from c.args.to c.args.policy c.args.bom c.new-reading.result c.stream.new.reading new c.stream.ensures.ready _ c.layout_to-layout.result c.layout_to-layout.ensures _ _ _ _ _ put.0 (put.2.1 ∙ c.put_bom-len.ensures.text) put.1 (Unit {0}) _ c.in_ok-stream.ensures.run
