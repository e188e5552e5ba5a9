use Rattle.std.proofs.Common.{◌+◌, ◌*◌, ◌/◌, inl, inr, ap, arith}
use Rattle.std.proofs.lemmas.Bool.{cases_lt}
use Rattle.wide_forms.specs.EncodingForm.{Utf16}
use Rattle.wide_forms.specs.Items.{chars}
use Rattle.wide_forms.specs.Laws.Encodings.{offsets-grow}
use Rattle.wide_utfstr.specs.View.{units_seen}
use Rattle.wide_offset_index.specs.Passed.{entries_left}
use Rattle.wide_offset_index.proofs.Passes.{is-some, is-none}
use Rattle.wide_editable.proofs.marked.update.Goals as goal

pub returns-in-Some-clause-steps : goal.returns-in-Some-clause-steps
returns-in-Some-clause-steps c =
    let before = offsets-grow Utf16 (chars Utf16 (units_seen c.args.text)) (64 * c.args.unchanged) c.args.range.from (omega (arith, c.requires.unchanged)) in
    omega (arith, c.count_if_few.ensures.steps, c.shift.ensures.steps, before, c.requires.edited.starts)

pub returns-in-Some-clause-read : goal.returns-in-Some-clause-read
returns-in-Some-clause-read c = λ short. omega (arith, c.count_if_few.ensures.read short, c.shift.ensures.grows)

pub returns-in-Some-clause-moved : goal.returns-in-Some-clause-moved
returns-in-Some-clause-moved c =
    let cs = chars Utf16 (units_seen c.args.text) in
    let from = c.args.range.from in
    let count = c.in-Some.ensures.count in
    λ few. elim (cases_lt (from / 64) (entries_left c.args.count c.in-Some.total)) [
      | inl some ↦ omega
          (arith, c.count_if_few.ensures.read few.short, c.shift.ensures.least some, count, ap (entries_left c.args.count) count, offsets-grow Utf16 cs from (64 * (from / 64 + 1)) (omega arith), c.requires.edited.starts)
      | inr none ↦ omega (arith, c.count_if_few.ensures.read few.short, c.shift.ensures.grows, count, ap (entries_left c.args.count) count, none)
    ]

pub returns-in-Some-clause-many_removed : goal.returns-in-Some-clause-many_removed
returns-in-Some-clause-many_removed c = λ many. absurd (omega (arith, many, c.in-Some.ensures.few.0))

pub returns-in-Some-clause-many_put : goal.returns-in-Some-clause-many_put
returns-in-Some-clause-many_put c = λ many. absurd (omega (arith, many, (c.count_if_few.ensures.some.0 (is-some _ _ c.in-Some.is)).short.put))

pub returns-in-None-clause-read : goal.returns-in-None-clause-read
returns-in-None-clause-read c = λ short. omega (arith, c.count_if_few.ensures.read short, c.recount.ensures.grows)

pub returns-in-None-clause-moved : goal.returns-in-None-clause-moved
returns-in-None-clause-moved c = λ few. absurd (is-none _ c.in-None.is (c.count_if_few.ensures.some.1 few))

pub returns-in-None-clause-many_removed : goal.returns-in-None-clause-many_removed
returns-in-None-clause-many_removed c = λ many. omega (arith, c.count_if_few.ensures.many_removed many, c.recount.ensures.steps)

pub returns-in-None-clause-many_put : goal.returns-in-None-clause-many_put
returns-in-None-clause-many_put c = λ many. omega (arith, c.count_if_few.ensures.many_put many, c.recount.ensures.steps)
