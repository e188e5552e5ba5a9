use Rattle.std.proofs.lemmas.Option.{IfSome_then}
use Rattle.wide_search.specs.Laws.Cuts.{substrings-empty, substrings-nowhere, substrings-split}
use Rattle.wide_search.proofs.Offsets.{none-then, no-units, some-units}
use Rattle.wide_utfstr.specs.View.{units_seen}
use Rattle.wide_ustr.proofs.KeptCuts.{kept-none, kept-next}
use Rattle.wide_utfstr.proofs.split.UtfStrSplitView.cut_first.Goals as goal

pub returns-then-is_empty-clause-none : goal.returns-then-is_empty-clause-none
returns-then-is_empty-clause-none g c = substrings-empty g.C.Unit.number g.met.C.Unit.same (units_seen c.args.needle) (units_seen c.args.self) (no-units (units_seen c.args.needle) c.if-is_empty.ensures)

pub returns-clause-none : goal.returns-clause-none
returns-clause-none g c =
    none-then c.split_once.result c.split_once.ensures.none (λ none. substrings-nowhere g.C.Unit.number g.met.C.Unit.same (units_seen c.args.needle) (units_seen c.args.self) none)

pub returns-clause-some : goal.returns-clause-some
returns-clause-some g c =
    IfSome_then c.split_once.result c.split_once.ensures.first (λ r split. substrings-split g.C.Unit.number g.met.C.Unit.same (units_seen c.args.needle) (units_seen c.args.self) (units_seen r.0) (units_seen r.1) (some-units (units_seen c.args.needle) c.if-is_empty.ensures) split)

pub returns-then-is_empty-clause-kept_none : goal.returns-then-is_empty-clause-kept_none
returns-then-is_empty-clause-kept_none g c = kept-none _ _ _ (returns-then-is_empty-clause-none g c)

pub returns-clause-kept_none : goal.returns-clause-kept_none
returns-clause-kept_none g c = none-then c.split_once.result (returns-clause-none g c) (λ is. kept-none _ _ _ is)

pub returns-clause-kept_some : goal.returns-clause-kept_some
returns-clause-kept_some g c = IfSome_then c.split_once.result (returns-clause-some g c) (λ r is. kept-next _ _ _ _ is)
