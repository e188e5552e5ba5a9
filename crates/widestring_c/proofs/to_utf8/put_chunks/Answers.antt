use Rattle.std.proofs.Common.{◌≡◌, ◌++◌, ◌∙◌, ℕ, List, refl, sym, subst, arith, length, map, take, drop}
use Rattle.wide_forms.specs.EncodingForm.{EncodingForm}
use Rattle.wide_forms.specs.Items.{IsWellFormed, chars}
use Rattle.wide_forms.specs.Utf8.{utf8}
use Rattle.wide_from_units.proofs.Utf8Texts.{no_text}
use Rattle.widestring_c.proofs.Buffers.{after_more, counted_end, is_none, next_part, nothing_yet, shorter, written_end}
use Rattle.widestring_c.proofs.to_utf8.put_chunks.Goals as goal

-- The text that is left after what was read.
text_left : {X : Type 0} (form : EncodingForm) (number : X → ℕ) (rest left : List X) (read : ℕ) (chunk : List ℕ) → left ≡ drop read rest → utf8 (chars form (map number rest)) ≡ chunk ++ utf8 (chars form (map number (drop read rest))) → utf8 (chars form (map number rest)) ≡ chunk ++ utf8 (chars form (map number left))
text_left form number rest left read chunk is text = subst (λ us. utf8 (chars form (map number rest)) ≡ chunk ++ utf8 (chars form (map number us))) (sym is) text

pub chunks-init : goal.chunks-init
chunks-init g c = record {
  well_formed = c.requires.well_formed;
  so_far = nothing_yet c.args.text.now c.args.at (utf8 (chars g.C.Unit.form (map g.C.Unit.number c.args.units.now))) (omega arith);
  space = refl;
  beyond = refl;
}

pub chunks-preserved : goal.chunks-preserved
chunks-preserved g c =
    let e = c.to_utf8_prefix-read.ensures in
    let put = c.put_items-at.ensures in
    record {
      well_formed = subst (λ us. IsWellFormed g.C.Unit.form (map g.C.Unit.number us)) (sym c.split_at.ensures.back) e.rest;
      so_far = next_part c.args.text.now c.args.at (utf8 (chars g.C.Unit.form (map g.C.Unit.number c.args.units.now))) c.chunks.text c.put_items-at.new.space (take c.to_utf8_prefix-read.result.written c.to_utf8_prefix-read.new.text)
          (utf8 (chars g.C.Unit.form (map g.C.Unit.number c.split_at.result.1.now))) c.chunks.at c.put_items-at.result (utf8 (chars g.C.Unit.form (map g.C.Unit.number c.chunks.rest.now)))
          (text_left g.C.Unit.form g.C.Unit.number c.chunks.rest.now c.split_at.result.1.now c.to_utf8_prefix-read.result.read (take c.to_utf8_prefix-read.result.written c.to_utf8_prefix-read.new.text) c.split_at.ensures.back e.text) c.chunks.invariant.so_far put.offset put.items put.space;
      space = put.space ∙ c.chunks.invariant.space;
      beyond = after_more c.args.text.now c.chunks.text c.put_items-at.new.space (length (take c.to_utf8_prefix-read.result.written c.to_utf8_prefix-read.new.text)) c.chunks.at c.put_items-at.result c.chunks.invariant.so_far.most put.offset c.chunks.invariant.beyond put.beyond;
    }

pub returns-clause-offset : goal.returns-clause-offset
returns-clause-offset g c =
    counted_end c.args.text.now c.args.at (utf8 (chars g.C.Unit.form (map g.C.Unit.number c.args.units.now))) c.chunks.text (utf8 (chars g.C.Unit.form (map g.C.Unit.number c.chunks.rest.now))) c.chunks.at
    (no_text g.C.Unit.form g.C.Unit.number c.chunks.rest.now (is_none (length c.chunks.rest.now) c.is_empty.result c.is_empty.ensures c.chunks-test.false)) c.chunks.invariant.so_far

pub returns-clause-text : goal.returns-clause-text
returns-clause-text g c = λ fits.
    written_end c.args.text.now c.args.at (utf8 (chars g.C.Unit.form (map g.C.Unit.number c.args.units.now))) c.chunks.text (utf8 (chars g.C.Unit.form (map g.C.Unit.number c.chunks.rest.now))) c.chunks.at
    (no_text g.C.Unit.form g.C.Unit.number c.chunks.rest.now (is_none (length c.chunks.rest.now) c.is_empty.result c.is_empty.ensures c.chunks-test.false)) c.chunks.invariant.so_far (shorter c.args.text.now c.chunks.text c.chunks.at fits c.chunks.invariant.space)
