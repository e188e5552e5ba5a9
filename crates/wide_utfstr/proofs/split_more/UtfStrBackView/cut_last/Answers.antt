use Rattle.std.proofs.Common.{map}
use Rattle.std.specs.Prelude.{reverse}
use Rattle.std.proofs.lemmas.Option.{IfSome_then}
use Rattle.wide_search.proofs.Offsets.{none-then, no-units, some-units}
use Rattle.wide_utfstr.specs.View.{units_seen}
use Rattle.wide_ustr.proofs.KeptCuts.{kept-none, kept-next}
use Rattle.wide_ustr.proofs.Mirrored.{back-cut-none, back-cut-next, back-empty, back-nowhere, back-split}
use Rattle.wide_utfstr.proofs.split_more.UtfStrBackView.cut_last.Goals as goal

pub returns-then-is_empty-clause-none : goal.returns-then-is_empty-clause-none
returns-then-is_empty-clause-none g c = back-cut-none (map g.C.Unit.number (units_seen c.args.needle)) (map g.C.Unit.number (units_seen c.args.self)) (back-empty g.C.Unit.number g.met.C.Unit.same (units_seen c.args.needle) (units_seen c.args.self) (no-units (units_seen c.args.needle) c.if-is_empty.ensures))

pub returns-then-is_empty-clause-kept_none : goal.returns-then-is_empty-clause-kept_none
returns-then-is_empty-clause-kept_none g c = kept-none (reverse (map g.C.Unit.number (units_seen c.args.needle))) (reverse (map g.C.Unit.number (units_seen c.args.self))) _ (returns-then-is_empty-clause-none g c)

pub returns-clause-none : goal.returns-clause-none
returns-clause-none g c =
    none-then c.rsplit_once.result c.rsplit_once.ensures.none (λ none. back-cut-none (map g.C.Unit.number (units_seen c.args.needle)) (map g.C.Unit.number (units_seen c.args.self)) (back-nowhere g.C.Unit.number g.met.C.Unit.same (units_seen c.args.needle) (units_seen c.args.self) none))

pub returns-clause-kept_none : goal.returns-clause-kept_none
returns-clause-kept_none g c = none-then c.rsplit_once.result (returns-clause-none g c) (λ is. kept-none (reverse (map g.C.Unit.number (units_seen c.args.needle))) (reverse (map g.C.Unit.number (units_seen c.args.self))) _ is)

pub returns-clause-some : goal.returns-clause-some
returns-clause-some g c =
    IfSome_then c.rsplit_once.result c.rsplit_once.ensures.last
    (λ r split. back-cut-next (map g.C.Unit.number (units_seen c.args.needle)) (map g.C.Unit.number (units_seen c.args.self)) (map g.C.Unit.number (units_seen r.0)) (map g.C.Unit.number (units_seen r.1)) (back-split g.C.Unit.number g.met.C.Unit.same (units_seen c.args.needle) (units_seen c.args.self) (units_seen r.0) (units_seen r.1) (some-units (units_seen c.args.needle) c.if-is_empty.ensures) split))

pub returns-clause-kept_some : goal.returns-clause-kept_some
returns-clause-kept_some g c = IfSome_then c.rsplit_once.result (returns-clause-some g c) (λ r is. kept-next (reverse (map g.C.Unit.number (units_seen c.args.needle))) (reverse (map g.C.Unit.number (units_seen c.args.self))) _ _ is)
