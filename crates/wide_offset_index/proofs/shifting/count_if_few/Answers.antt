use Rattle.std.proofs.Common.{refl, arith}
use Rattle.wide_utfstr.specs.View.{units_seen}
use Rattle.wide_offset_index.proofs.Few.{end-within, stop-within, start-within, new-part, put-is, all-read, not-many, total-is, total-within, not-few, are-few}
use Rattle.wide_offset_index.specs.Passed.{IsShort}
use Rattle.wide_offset_index.proofs.shifting.count_if_few.Goals.{then-removed-gt-FEW-via-then-removed-gt-FEW, then-removed-gt-FEW-via-else-removed-gt-FEW+then-more}
use Rattle.wide_offset_index.proofs.shifting.count_if_few.Goals as goal

pub overflow_sub-stop : goal.overflow_sub-stop
overflow_sub-stop c = end-within (units_seen c.args.text) c.args.text.well_formed c.args.count c.args.units c.len.result c.args.range c.requires.edited c.len.ensures

pub overflow_sub-stop-2 : goal.overflow_sub-stop-2
overflow_sub-stop-2 c = stop-within (units_seen c.args.text) c.args.text.well_formed c.args.count c.args.units c.len.result c.args.range c.requires.edited c.len.ensures

pub overflow_sub-more : goal.overflow_sub-more
overflow_sub-more c = start-within (units_seen c.args.text) c.args.text.well_formed c.args.count c.args.units c.len.result c.args.range c.requires.edited c.len.ensures

pub slice-requires-clause-at_boundaries : goal.slice-requires-clause-at_boundaries
slice-requires-clause-at_boundaries c = new-part (units_seen c.args.text) c.args.text.well_formed c.args.count c.args.units c.len.result c.args.range c.requires.edited c.len.ensures

pub overflow_add-result : goal.overflow_add-result
overflow_add-result c =
    let within = total-within (units_seen c.args.text) c.args.text.well_formed c.args.count c.args.units c.len.result c.args.range c.requires.edited c.len.ensures (units_seen c.slice.result) c.slice.ensures c.char_count-added.result c.char_count-added.ensures in
    omega (arith, within)

pub returns-then-added-gt-FEW-clause-some : goal.returns-then-added-gt-FEW-clause-some
returns-then-added-gt-FEW-clause-some c = (λ no. absurd cc, λ few. absurd (not-few (units_seen c.args.text) c.args.text.well_formed c.args.count c.args.units c.len.result c.args.range c.requires.edited c.len.ensures (units_seen c.slice.result) c.slice.ensures c.char_count-added.result c.char_count-added.ensures c.if-added-gt-FEW.true few))

pub returns-then-added-gt-FEW-clause-read : goal.returns-then-added-gt-FEW-clause-read
returns-then-added-gt-FEW-clause-read c = λ _. all-read (units_seen c.args.text) c.args.text.well_formed c.args.count c.args.units c.len.result c.args.range c.requires.edited c.len.ensures _ _ c.tick.ensures

pub returns-then-added-gt-FEW-clause-many_put : goal.returns-then-added-gt-FEW-clause-many_put
returns-then-added-gt-FEW-clause-many_put c = λ many. absurd (not-many (units_seen c.args.text) c.args.text.well_formed c.args.count c.args.units c.len.result c.args.range c.requires.edited c.len.ensures c.if-more.false many)

pub returns-clause-count : goal.returns-clause-count
returns-clause-count c = total-is (units_seen c.args.text) c.args.text.well_formed c.args.count c.args.units c.len.result c.args.range c.requires.edited c.len.ensures (units_seen c.slice.result) c.slice.ensures c.char_count-added.result c.char_count-added.ensures

pub returns-clause-some : goal.returns-clause-some
returns-clause-some c = (λ _. are-few (units_seen c.args.text) c.args.text.well_formed c.args.count c.args.units c.len.result c.args.range c.requires.edited c.len.ensures (units_seen c.slice.result) c.slice.ensures c.char_count-added.result c.char_count-added.ensures c.if-removed-gt-FEW.false c.if-more.false c.if-added-gt-FEW.false, λ _. refl)

pub returns-clause-read : goal.returns-clause-read
returns-clause-read c = λ _. all-read (units_seen c.args.text) c.args.text.well_formed c.args.count c.args.units c.len.result c.args.range c.requires.edited c.len.ensures _ _ c.tick.ensures

pub returns-clause-many_put : goal.returns-clause-many_put
returns-clause-many_put c = λ many. absurd (not-many (units_seen c.args.text) c.args.text.well_formed c.args.count c.args.units c.len.result c.args.range c.requires.edited c.len.ensures c.if-more.false many)

too-many : (c : goal.Joined-then-removed-gt-FEW) → IsShort (units_seen c.args.text) c.args.units c.args.range → ⊥
too-many c short = elim c.then-removed-gt-FEW.branch [
  | then-removed-gt-FEW-via-then-removed-gt-FEW w ↦ omega (arith, short.removed, w.if-removed-gt-FEW.true)
  | then-removed-gt-FEW-via-else-removed-gt-FEW+then-more w ↦ omega (arith, short.put, put-is (units_seen c.args.text) c.args.text.well_formed c.args.count c.args.units c.len.result c.args.range c.requires.edited c.len.ensures, w.if-more.true)
]

pub returns-then-removed-gt-FEW-clause-some : goal.returns-then-removed-gt-FEW-clause-some
returns-then-removed-gt-FEW-clause-some c = (λ no. absurd cc, λ few. absurd (too-many c few.short))

pub returns-then-removed-gt-FEW-clause-read : goal.returns-then-removed-gt-FEW-clause-read
returns-then-removed-gt-FEW-clause-read c = λ short. absurd (too-many c short)
