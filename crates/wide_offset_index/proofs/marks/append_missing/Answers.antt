use Rattle.std.proofs.Common.{◌≡◌, ◌+◌, ◌*◌, ◌/◌, ◌++◌, ◌∷◌, [], ap, sym, refl, ◌∙◌, arith, map, length, take, drop}
use Rattle.std.specs.List.{range_with_len}
use Rattle.std.proofs.lemmas.List.{take_all}
use Rattle.std.proofs.lemmas.List.FromFn.{map-range_with_len_more}
use Rattle.std.proofs.Common.{length-append}
use Rattle.wide_forms.specs.EncodingForm.{Utf16}
use Rattle.wide_forms.specs.Items.{chars}
use Rattle.wide_utfstr.specs.View.{units_seen}
use Rattle.wide_steps.specs.Counted.{counted}
use Rattle.wide_offset_index.specs.Marks.{index_entry}
use Rattle.wide_offset_index.proofs.Lengths.{size}
use Rattle.wide_offset_index.proofs.Marking.{next_char, some-length, some-marks, well-formed, whole-size, goes-within, none-left}
use Rattle.wide_offset_index.proofs.marks.append_missing.Goals as goal

pub loop-c-init : goal.loop-c-init
loop-c-init c =
    let cs = chars Utf16 (units_seen c.args.text) in
    let ms = c.args.marks.now.items in
    let few = some-length cs ms c.requires.some in
    let number : c.len.result ≡ length ms = omega (arith, c.len.ensures, c.as_slice.ensures.len, ap length c.as_slice.ensures.value) in
    let read : 64 * c.len.result ≡ 64 * length ms + 0 = omega (arith, number) in
    record {
      some = some-marks cs ms c.requires.some;
      rest = c.seek-at.ensures.rest ∙ ap (λ n. drop n cs) read;
      at = c.seek-at.ensures.at ∙ ap (λ n. size Utf16 (take n cs)) read;
      few = omega arith;
      within = omega (arith, few);
      space = refl;
      grows = omega arith;
      steps = ap (λ n. counted c.args.steps.now + n) (sym (c.seek-at.ensures.at ∙ ap (index_entry cs) number));
    }

pub overflow_add-at : goal.overflow_add-at
overflow_add-at c =
    let us = units_seen c.args.text in
    let read = 64 * length c.loop-c.marks.items + c.loop-c.gone in
    let goes = next_char (chars Utf16 us) read c.in-Some.c _ (sym c.loop-c.invariant.rest ∙ c.in-Some.ensures.steps) in
    omega (arith, c.len-units.ensures, goes-within us (well-formed us c.args.text.well_formed) read c.in-Some.c c.loop-c.at c.char_len-len.result _ goes c.loop-c.invariant.at c.char_len-len.ensures.value)

pub loop-c-preserved-then-gone-lt63 : goal.loop-c-preserved-then-gone-lt63
loop-c-preserved-then-gone-lt63 c =
    let cs = chars Utf16 (units_seen c.args.text) in
    let i = c.loop-c.invariant in
    let m = length c.loop-c.marks.items in
    let read = 64 * m + c.loop-c.gone in
    let goes = next_char cs read c.in-Some.c _ (sym i.rest ∙ c.in-Some.ensures.steps) in
    let next : read + 1 ≡ 64 * m + (c.loop-c.gone + 1) = omega arith in
    record {
      some = i.some;
      rest = goes.left ∙ ap (λ n. drop n cs) next;
      at = omega (arith, goes.at, i.at, c.char_len-len.ensures.value, ap (λ n. size Utf16 (take n cs)) next);
      few = omega (arith, c.if-gone-lt63.true);
      within = omega (arith, goes.below);
      space = i.space;
      grows = omega (arith, i.grows, c.tick.ensures);
      steps = omega (arith, i.steps, c.tick.ensures);
    }

pub loop-c-preserved : goal.loop-c-preserved
loop-c-preserved c =
    let cs = chars Utf16 (units_seen c.args.text) in
    let i = c.loop-c.invariant in
    let m = length c.loop-c.marks.items in
    let at = c.loop-c.at + c.char_len-len.result in
    let new = c.push_reserved.new.self.items in
    let read = 64 * m + c.loop-c.gone in
    let goes = next_char cs read c.in-Some.c _ (sym i.rest ∙ c.in-Some.ensures.steps) in
    let more : m + 1 ≡ length new = omega (arith, ap length c.push_reserved.ensures.items, length-append c.loop-c.marks.items (at ∷ [])) in
    let whole : read + 1 ≡ 64 * (m + 1) = omega (arith, i.few, c.if-gone-lt63.false) in
    let next : read + 1 ≡ 64 * length new + 0 = omega (arith, whole, more) in
    let marked : at ≡ index_entry cs (m + 1) = omega (arith, goes.at, i.at, c.char_len-len.ensures.value, ap (λ n. size Utf16 (take n cs)) whole) in
    let after : 1 + m ≡ m + 1 = omega arith in
    record {
      some = c.push_reserved.ensures.items ∙ ap (λ xs. xs ++ at ∷ []) i.some ∙ ap (λ n. map (index_entry cs) (range_with_len 1 m) ++ n ∷ []) marked ∙ sym (map-range_with_len_more (index_entry cs) 1 m (m + 1) after) ∙ ap (λ n. map (index_entry cs) (range_with_len 1 n)) more;
      rest = goes.left ∙ ap (λ n. drop n cs) next;
      at = omega (arith, goes.at, i.at, c.char_len-len.ensures.value, ap (λ n. size Utf16 (take n cs)) next);
      few = omega arith;
      within = omega (arith, goes.below, next);
      space = c.push_reserved.ensures.capacity ∙ i.space;
      grows = omega (arith, i.grows, c.tick.ensures);
      steps = omega (arith, i.steps, c.tick.ensures);
    }

pub returns-clause-marks : goal.returns-clause-marks
returns-clause-marks c =
    let us = units_seen c.args.text in
    let cs = chars Utf16 us in
    let i = c.loop-c.invariant in
    let m = length c.loop-c.marks.items in
    let done = none-left us (well-formed us c.args.text.well_formed) (64 * m + c.loop-c.gone) (sym i.rest ∙ c.in_default.ensures.steps.0) in
    let all : m ≡ length cs / 64 = omega (arith, done, i.within, i.few) in
    i.some ∙ ap (λ n. map (index_entry cs) (range_with_len 1 n)) all

pub returns-clause-steps : goal.returns-clause-steps
returns-clause-steps c =
    let us = units_seen c.args.text in
    let cs = chars Utf16 us in
    let i = c.loop-c.invariant in
    let well = well-formed us c.args.text.well_formed in
    let read = 64 * length c.loop-c.marks.items + c.loop-c.gone in
    let done = none-left us well read (sym i.rest ∙ c.in_default.ensures.steps.0) in
    omega (arith, i.steps, i.at, ap (size Utf16) (take_all read cs done), whole-size us well)
