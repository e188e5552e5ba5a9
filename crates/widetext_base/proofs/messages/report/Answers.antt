use Rattle.std.proofs.Common.{rules, ◌∙◌, subst}
use Rattle.widetext_base.specs.Command.{AppendsPrefix}
use Rattle.widetext_base.proofs.Lines.{line_said, put_prefix}
use Rattle.widetext_base.proofs.messages.report.Goals as goal

pub returns-then-not-failed : goal.returns-then-not-failed
returns-then-not-failed g c =
    let held = g.F.ByteSink.held c.args.faults.now in
    let held' = g.F.ByteSink.held c.put_all.new.sink in
    let put : AppendsPrefix held held' c.as_bytes.result.now = put_prefix _ _ _ _ _ c.put_all.ensures in
    line_said (g.T.Display.output c.args.text.now) c.new-line.result c.writeln.new.self c.writeln.result held held' c.new-line.ensures.intact c.new-line.ensures.text (search rules) c.writeln.ensures.writes
    (subst (AppendsPrefix held held') (c.as_bytes.ensures.value ∙ c.as_str.ensures.value) put)
