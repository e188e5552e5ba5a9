use Rattle.std.proofs.Common.{◌≡◌, ◌+◌, ◌-◌, ◌*◌, ◌/◌, ◌++◌, ◌∷◌, ◌<◌, [], ℕ, inl, inr, ap, sym, ◌∙◌, arith, length, map, get_or, length-set, get_or-take, get_or-set_other}
use Rattle.std.specs.List.{range_with_len}
use Rattle.std.proofs.lemmas.Bool.{cases_lt}
use Rattle.std.proofs.lemmas.List.{take_more_set}
use Rattle.std.proofs.lemmas.List.FromFn.{map-range_with_len_more, get_or-map-range_with_len}
use Rattle.wide_forms.specs.EncodingForm.{Utf16}
use Rattle.wide_forms.specs.Items.{chars}
use Rattle.wide_forms.specs.Laws.Encodings.{offsets-grow}
use Rattle.wide_utfstr.specs.View.{units_seen}
use Rattle.wide_offset_index.specs.Marks.{index_entry}
use Rattle.wide_offset_index.proofs.Neighbors.{apart}
use Rattle.wide_offset_index.proofs.shifting.move_entries.Goals as goal

pub next_entry-entry-requires-clause-before : goal.next_entry-entry-requires-clause-before
next_entry-entry-requires-clause-before c =
    let cs = chars Utf16 (units_seen c.args.text) in
    let n = c.loop-number.number in
    let xs = c.loop-number.entries in
    λ some. sym (get_or-take n xs (n - 1) 0 (omega (arith, some))) ∙ ap (λ ys. get_or ys (n - 1) 0) c.loop-number.invariant.done ∙ get_or-map-range_with_len (index_entry cs) 1 n (n - 1) n 0 (omega (arith, some)) (omega (arith, some))

pub loop-number-preserved : goal.loop-number-preserved
loop-number-preserved c =
    let cs = chars Utf16 (units_seen c.args.text) in
    let n = c.loop-number.number in
    let xs = c.loop-number.entries in
    let i = c.loop-number.invariant in
    let new = c.next_entry-entry.ensures in
    let below : n < length xs = omega (arith, c.loop-number-test.true, i.long) in
    let after : 1 + n ≡ n + 1 = omega arith in
    let unchanged = c.args.range.from / 64 in
    let next = apart cs (64 * n) (64 * (n + 1)) (omega arith) (omega (arith, below, i.long, c.requires.new, c.requires.total)) in
    record {
      long = omega (arith, i.long, length-set {A = ℕ});
      done = take_more_set xs n c.next_entry-entry.result below ∙ ap (λ ys. ys ++ c.next_entry-entry.result ∷ []) i.done ∙ ap (λ v. map (index_entry cs) (range_with_len 1 n) ++ v ∷ []) new.entry ∙ sym (map-range_with_len_more (index_entry cs) 1 n (n + 1) after);
      same = λ k le. get_or-set_other xs n k c.next_entry-entry.result 0 (omega (arith, le)) ∙ i.same k (omega (arith, le));
      grows = omega (arith, i.grows, c.tick.ensures, new.grows);
      none = λ here. absurd (omega (arith, here, c.loop-number.auto.number));
      least = λ _. elim (cases_lt unchanged n) [
        | inl later ↦ omega (arith, i.least later, c.tick.ensures, new.grows)
        | inr first ↦ (
            let same : n ≡ unchanged = omega (arith, first, c.loop-number.auto.number) in
            omega (arith, i.none same, c.tick.ensures, new.first same, new.entry, ap (λ k. index_entry cs (k + 1)) same, same))
      ];
      steps = elim (cases_lt unchanged n) [
        | inl later ↦ omega (arith, i.steps, c.tick.ensures, new.later later, next.least, offsets-grow Utf16 cs c.args.range.from (64 * n) (omega (arith, later)), c.requires.edited.starts)
        | inr first ↦ (
            let same : n ≡ unchanged = omega (arith, first, c.loop-number.auto.number) in
            omega (arith, i.steps, c.tick.ensures, new.first same, new.entry, same, offsets-grow Utf16 cs (64 * n) c.args.range.from (omega (arith, same)), offsets-grow Utf16 cs c.args.range.from (64 * (n + 1)) (omega (arith, same)), c.requires.edited.starts))
      ];
    }
