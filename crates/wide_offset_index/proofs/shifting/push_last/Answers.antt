use Rattle.std.proofs.Common.{◌≡◌, ◌+◌, ◌*◌, ◌/◌, ◌++◌, ◌∷◌, [], ap, sym, ◌∙◌, arith, length, map}
use Rattle.std.specs.List.{range_with_len}
use Rattle.std.proofs.lemmas.List.{take_all}
use Rattle.std.proofs.lemmas.List.FromFn.{map-range_with_len_more}
use Rattle.wide_forms.specs.EncodingForm.{Utf16}
use Rattle.wide_forms.specs.Items.{chars}
use Rattle.wide_utfstr.specs.View.{units_seen}
use Rattle.wide_offset_index.specs.Marks.{offset, index_entry}
use Rattle.wide_offset_index.proofs.Lengths.{size}
use Rattle.wide_offset_index.proofs.Marking.{well-formed, whole-size}
use Rattle.wide_offset_index.proofs.shifting.push_last.Goals as goal

pub pass_back-at-requires-clause-start : goal.pass_back-at-requires-clause-start
pass_back-at-requires-clause-start c =
    let us = units_seen c.args.text in
    let cs = chars Utf16 us in
    omega (arith, c.len-len.ensures, whole-size us (well-formed us c.args.text.well_formed), ap (size Utf16) (take_all c.args.total cs (omega (arith, c.requires.total))))

pub returns-then-number-total-clause-marks : goal.returns-then-number-total-clause-marks
returns-then-number-total-clause-marks c =
    let cs = chars Utf16 (units_seen c.args.text) in
    let ms = c.args.marks.now.items in
    let m = length ms in
    let at = c.pass_back-at.result in
    let number : c.len-number.result + 1 ≡ m + 1 = omega (arith, c.len-number.ensures) in
    let marked : at ≡ index_entry cs (m + 1) = c.pass_back-at.ensures.offset ∙ ap (λ n. offset cs (64 * n)) number in
    let whole : m + 1 ≡ length cs / 64 = omega (arith, number, c.if-number-total.true, c.requires.long, ap (λ n. n / 64) c.requires.total) in
    let after : 1 + m ≡ m + 1 = omega arith in
    c.push_reserved.ensures.items ∙ ap (λ xs. xs ++ at ∷ []) c.requires.some ∙ ap (λ n. map (index_entry cs) (range_with_len 1 m) ++ n ∷ []) marked ∙ sym (map-range_with_len_more (index_entry cs) 1 m (m + 1) after)
    ∙ ap (λ n. map (index_entry cs) (range_with_len 1 n)) whole
