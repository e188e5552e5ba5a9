use Rattle.std.proofs.Common.{◌≡◌, ◌↔◌, ◌++◌, ap, sym, ◌∙◌, map, length, take, drop, subst, arith}
use Rattle.std.specs.Str.{chars as str_chars}
use Rattle.wide_forms.specs.Items.{chars}
use Rattle.wide_forms.specs.Utf8.{utf8}
use Rattle.wide_forms.specs.Laws.Offsets.{scalars-chars}
use Rattle.wide_from_units.proofs.Utf8Texts.{no_text}
use Rattle.wide_utfstr.specs.View.{text_seen}
use Rattle.wide_utfstr.proofs.SameChunks.{same_bytes, same_after, no_longer_same, same_at_end}
use Rattle.wide_utfstr.proofs.view.UtfStr.eq_str.Goals as goal

pub chunks-init : goal.chunks-init
chunks-init g c =
    let form = g.C.Unit.form in
    let number = g.C.Unit.number in
    let same = same_bytes (text_seen c.args.self) c.args.text.now (scalars-chars form (map number c.args.self.units.now) c.args.self.well_formed) c.utf8.text in
    record {
      well_formed = c.as_slice-ours.ensures.well_formed;
      same = subst (λ us. (text_seen c.args.self ≡ str_chars c.args.text.now) ↔ (utf8 (chars form (map number us)) ≡ c.as_bytes-theirs.result.now)) (sym c.as_slice-ours.ensures.units)
          (subst (λ bs. (text_seen c.args.self ≡ str_chars c.args.text.now) ↔ (utf8 (text_seen c.args.self) ≡ bs)) (sym c.as_bytes-theirs.ensures.value) same);
    }

pub returns-in_default : goal.returns-in_default
returns-in_default g c =
    let form = g.C.Unit.form in
    let number = g.C.Unit.number in
    no_longer_same (utf8 (chars form (map number c.chunks.ours.now))) c.chunks.theirs.now c.chunks.invariant.same (take c.to_utf8_prefix-read.result.written c.to_utf8_prefix-read.new.text)
    (utf8 (chars form (map number (drop c.to_utf8_prefix-read.result.read c.chunks.ours.now)))) c.to_utf8_prefix-read.ensures.text c.in_default.ensures.cases

pub chunks-preserved : goal.chunks-preserved
chunks-preserved g c =
    let form = g.C.Unit.form in
    let number = g.C.Unit.number in
    let left = c.split_at.ensures.back in
    record {
      well_formed = rw left c.to_utf8_prefix-read.ensures.rest;
      same = same_after (utf8 (chars form (map number c.chunks.ours.now))) c.chunks.theirs.now c.chunks.invariant.same (take c.to_utf8_prefix-read.result.written c.to_utf8_prefix-read.new.text)
          (utf8 (chars form (map number c.split_at.result.1.now))) c.in-Some.rest.now (c.to_utf8_prefix-read.ensures.text ∙ ap (λ us. take c.to_utf8_prefix-read.result.written c.to_utf8_prefix-read.new.text ++ utf8 (chars form (map number us))) (sym left))
          c.in-Some.ensures.cases.0 c.in-Some.ensures.cases.1;
    }

pub returns : goal.returns
returns g c =
    let none : length c.chunks.ours.now ≡ 0 = grind (arith, c.is_empty.ensures, c.chunks-test.false) in
    same_at_end (utf8 (chars g.C.Unit.form (map g.C.Unit.number c.chunks.ours.now))) c.chunks.theirs.now c.chunks.invariant.same c.is_empty-2.result (no_text g.C.Unit.form g.C.Unit.number c.chunks.ours.now none) c.is_empty-2.ensures
