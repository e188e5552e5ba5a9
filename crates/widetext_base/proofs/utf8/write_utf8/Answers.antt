use Rattle.std.proofs.Common.{ap, subst, ◌∙◌, IfErr}
use Rattle.wide_error.specs.Texts.{transcode_error_text}
use Rattle.widetext_base.specs.Command.{Says, status_of}
use Rattle.widetext_base.proofs.utf8.write_utf8.Goals as goal
use Rattle.widetext_base.proofs.utf8.write_utf8.Goals.{in-None, in-Some}

pub returns-clause-run : goal.returns-clause-run
returns-clause-run g c = elim c.match-policy.branch [
  | in-None w ↦ (
      let r = w.transcode-answer.ensures.run in
      rw (w.in-None.is, w.source-is, w.sink-is) (record {
        answer = w.transcode-answer.result;
        bytes = r.0;
        written = r.1;
        moves = r.2;
        ends = r.3;
        space = r.4;
        reports = r.5;
        at_end = w.transcode-answer.ensures.at_end;
        source_failed = w.transcode-answer.ensures.source_failed;
        sink_failed = w.transcode-answer.ensures.sink_failed;
        says = subst (λ a. IfErr a (λ error. Says (g.F.ByteSink.held c.args.faults.now) (g.F.ByteSink.held c.end.new.faults) (transcode_error_text error))) w.answer-is c.end.ensures.said;
        gives = c.end.ensures.status ∙ ap (λ a. status_of a) w.answer-is;
      })
      )
  | in-Some w ↦ (
      let r = w.transcode_with-answer.ensures.run in
      rw (w.in-Some.is, w.source-is, w.sink-is) (record {
        answer = w.transcode_with-answer.result;
        bytes = r.0;
        written = r.1;
        moves = r.2;
        ends = r.3;
        space = r.4;
        reports = r.5;
        at_end = w.transcode_with-answer.ensures.at_end;
        source_failed = w.transcode_with-answer.ensures.source_failed;
        sink_failed = w.transcode_with-answer.ensures.sink_failed;
        says = subst (λ a. IfErr a (λ error. Says (g.F.ByteSink.held c.args.faults.now) (g.F.ByteSink.held c.end.new.faults) (transcode_error_text error))) w.answer-is c.end.ensures.said;
        gives = c.end.ensures.status ∙ ap (λ a. status_of a) w.answer-is;
      })
      )
]
