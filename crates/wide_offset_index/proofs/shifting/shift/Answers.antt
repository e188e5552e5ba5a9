use Rattle.std.proofs.Common.{◌≡◌, ◌+◌, ◌*◌, ◌/◌, ◌≤◌, ◌++◌, inl, inr, ap, ◌∙◌, arith, length, length-take, take, drop}
use Rattle.std.proofs.lemmas.Grind.{common_steps}
use Rattle.std.proofs.lemmas.Bool.{cases_lt}
use Rattle.std.proofs.lemmas.List.{take-take}
use Rattle.std.proofs.lemmas.List.FromFn.{take-map-range_with_len}
use Rattle.wide_forms.specs.EncodingForm.{Utf16}
use Rattle.wide_forms.specs.Items.{chars}
use Rattle.wide_forms.specs.Laws.Encodings.{offsets-grow}
use Rattle.wide_utfstr.specs.View.{units_seen}
use Rattle.wide_offset_index.specs.Marks.{index_entry}
use Rattle.wide_offset_index.proofs.Lengths.{size-take}
use Rattle.wide_offset_index.proofs.Marking.{well-formed, whole-size}
use Rattle.wide_offset_index.proofs.shifting.shift.Goals as goal

pub returns-clause-grows : goal.returns-clause-grows
returns-clause-grows c =
    let us = units_seen c.args.text in
    let cs = chars Utf16 us in
    let es = c.move_entries.new.entries in
    let m = length (take c.truncate.new.self.len (es ++ drop (length es) c.truncate.new.self.items)) in
    let same : m ≡ length c.as_mut_slice.result.now = grind (arith, common_steps) in
    let whole = whole-size us (well-formed us c.args.text.well_formed) in
    elim (cases_lt m (c.args.total / 64)) [
      | inl below ↦ omega (arith, c.move_entries.ensures.grows, c.push_last.ensures.missing below, whole, size-take Utf16 cs (64 * (m + 1)))
      | inr past ↦ omega (arith, c.move_entries.ensures.grows, c.push_last.ensures.whole past)
    ]

pub returns-clause-steps : goal.returns-clause-steps
returns-clause-steps c =
    let us = units_seen c.args.text in
    let cs = chars Utf16 us in
    let es = c.move_entries.new.entries in
    let m = length (take c.truncate.new.self.len (es ++ drop (length es) c.truncate.new.self.items)) in
    let same : m ≡ length c.as_mut_slice.result.now = grind (arith, common_steps) in
    let whole = whole-size us (well-formed us c.args.text.well_formed) in
    let from = c.args.range.from in
    let unchanged : from / 64 ≤ length c.as_mut_slice.result.now = grind (arith, common_steps, c.requires.edited.forward, c.requires.edited.within, c.requires.edited.fits) in
    elim (cases_lt m (c.args.total / 64)) [
      | inl below ↦ omega (arith, c.move_entries.ensures.steps, ap (index_entry cs) same, c.requires.edited.starts, c.push_last.ensures.missing below, whole, size-take Utf16 cs (64 * (m + 1)), offsets-grow Utf16 cs (64 * m) (64 * (m + 1)) (omega arith), offsets-grow Utf16 cs from (64 * (m + 1)) (omega (arith, same, unchanged)))
      | inr past ↦ omega (arith, c.move_entries.ensures.steps, ap (index_entry cs) same, c.requires.edited.starts, c.push_last.ensures.whole past, whole, size-take Utf16 cs (64 * m), size-take Utf16 cs from, c.requires.edited.starts)
    ]

pub move_entries-requires-clause-some : goal.move_entries-requires-clause-some
move_entries-requires-clause-some c =
    let cs = chars Utf16 (units_seen c.args.text) in
    let k = c.args.range.from / 64 in
    let edited = c.requires.edited in
    let few : c.args.range.from ≤ length cs = omega (arith, edited.fits, edited.within) in
    ap (take k) (c.as_mut_slice.ensures.value ∙ c.truncate.ensures.items) ∙ take-take k (c.args.total / 64) c.args.marks.now.items (omega (arith, few, c.requires.total)) ∙ c.requires.some
    ∙ take-map-range_with_len (index_entry cs) 1 (length cs / 64) k (omega (arith, few))

pub returns-clause-least : goal.returns-clause-least
returns-clause-least c =
    let us = units_seen c.args.text in
    let cs = chars Utf16 us in
    let es = c.move_entries.new.entries in
    let m = length (take c.truncate.new.self.len (es ++ drop (length es) c.truncate.new.self.items)) in
    let same : m ≡ length c.as_mut_slice.result.now = grind (arith, common_steps) in
    let left = ap length (c.as_mut_slice.ensures.value ∙ c.truncate.ensures.items) ∙ length-take (c.args.total / 64) c.args.marks.now.items in
    let whole = whole-size us (well-formed us c.args.text.well_formed) in
    λ some. let moved = c.move_entries.ensures.least (omega (arith, some, left, c.requires.long)) in
    elim (cases_lt m (c.args.total / 64)) [
      | inl below ↦ omega (arith, moved, left, c.requires.long, c.push_last.ensures.missing below, whole, size-take Utf16 cs (64 * (m + 1)))
      | inr past ↦ omega (arith, moved, left, c.requires.long, c.push_last.ensures.whole past)
    ]

pub returns-clause-missing : goal.returns-clause-missing
returns-clause-missing c =
    let us = units_seen c.args.text in
    let cs = chars Utf16 us in
    let es = c.move_entries.new.entries in
    let m = length (take c.truncate.new.self.len (es ++ drop (length es) c.truncate.new.self.items)) in
    let same : m ≡ length c.as_mut_slice.result.now = grind (arith, common_steps) in
    let left = ap length (c.as_mut_slice.ensures.value ∙ c.truncate.ensures.items) ∙ length-take (c.args.total / 64) c.args.marks.now.items in
    let from = c.args.range.from in
    λ more. let all : m ≡ c.args.count / 64 = omega (arith, same, left, c.requires.long, more) in
    let last = c.push_last.ensures.missing (omega (arith, all, more)) in
    elim (cases_lt (from / 64) m) [
      | inl some ↦ omega (arith, c.move_entries.ensures.least (omega (arith, some, same)), same, all, last, ap (λ k. index_entry cs (k + 1)) all, offsets-grow Utf16 cs from (64 * (from / 64 + 1)) (omega arith), c.requires.edited.starts)
      | inr none ↦ omega (arith, c.move_entries.ensures.grows, none, all, last, ap (λ k. index_entry cs (k + 1)) all)
    ]
