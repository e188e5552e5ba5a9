use Rattle.std.proofs.Common.{ap}
use Rattle.wide_forms.specs.Lines.{lines_of}
use Rattle.wide_forms.specs.Laws.Items.{items-nil}
use Rattle.wide_forms.specs.Laws.Lines.{lines-unended, items-no_feed, some_items, lines-at_feed}
use Rattle.wide_unit.proofs.laws.lines_of_units.Goals as goal

pub returns-clause-empty : goal.returns-clause-empty
returns-clause-empty c form = ap lines_of (items-nil form)

pub returns-clause-unended : goal.returns-clause-unended
returns-clause-unended c form us some none = lines-unended _ (some_items form us some) (items-no_feed form us none)

pub returns-clause-ended : goal.returns-clause-ended
returns-clause-ended c form prefix back none = lines-at_feed form prefix back none
