use Rattle.std.proofs.Common.{rules, IfSome}
use Rattle.std.proofs.lemmas.Option.{IfSome_then}
use Rattle.wide_search.specs.Occurrences.{IsFirstFrom}
use Rattle.wide_search.proofs.Texts.{ends-some, from-ends}
use Rattle.wide_utfstr.specs.View.{units_seen}
use Rattle.wide_utfstr.proofs.view.UtfStr.find_from.Goals as goal

pub returns-clause-char_boundary : goal.returns-clause-char_boundary
returns-clause-char_boundary g c = λ b.
    let us = units_seen c.args.self in
    let needle = units_seen c.args.needle in
    let first : IfSome c.find_from.result (IsFirstFrom needle us c.args.from) = search rules in
    IfSome_then c.find_from.result first (λ at is. (from-ends g.C.Unit.form g.C.Unit.number us c.args.self.well_formed needle c.args.from at c.args.needle.well_formed b is).0)

pub returns-clause-beyond : goal.returns-clause-beyond
returns-clause-beyond g c = λ b.
    let us = units_seen c.args.self in
    let needle = units_seen c.args.needle in
    let first : IfSome c.find_from.result (IsFirstFrom needle us c.args.from) = search rules in
    IfSome_then c.find_from.result first (λ at is. (from-ends g.C.Unit.form g.C.Unit.number us c.args.self.well_formed needle c.args.from at c.args.needle.well_formed b is).1)

pub returns-clause-char_boundary_of_some : goal.returns-clause-char_boundary_of_some
returns-clause-char_boundary_of_some g c = λ some.
    let us = units_seen c.args.self in
    let needle = units_seen c.args.needle in
    let first : IfSome c.find_from.result (IsFirstFrom needle us c.args.from) = search rules in
    IfSome_then c.find_from.result first (λ at is. (ends-some g.C.Unit.form g.C.Unit.number us c.args.self.well_formed needle at c.args.needle.well_formed some is.here).0)

pub returns-clause-beyond_some : goal.returns-clause-beyond_some
returns-clause-beyond_some g c = λ some.
    let us = units_seen c.args.self in
    let needle = units_seen c.args.needle in
    let first : IfSome c.find_from.result (IsFirstFrom needle us c.args.from) = search rules in
    IfSome_then c.find_from.result first (λ at is. (ends-some g.C.Unit.form g.C.Unit.number us c.args.self.well_formed needle at c.args.needle.well_formed some is.here).1)
