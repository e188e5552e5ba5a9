use Rattle.std.proofs.Common.{length}
use Rattle.example_registry.proofs.reports.Reports.report_bad.Given as goal

abbrev pub decreases-bad : goal.decreases-bad
decreases-bad l = length l.self.bad.now
