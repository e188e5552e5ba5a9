use Rattle.std.proofs.Common.{◌≡◌, ◌++◌, ◌∷◌, ◌+◌, ◌-◌, ◌≤◌, ◌^◌, ℕ, List, [], refl, ap, sym, ◌∙◌, subst, arith, length, length-append, length-take, length-drop, map, min, take, drop}
use Rattle.std.proofs.lemmas.List.{length-map}
use Rattle.std.proofs.lemmas.Slice.{drop-put_mid}
use Rattle.std.specs.Str.{IsUtf8, chars}
use Rattle.wide_forms.specs.EncodingForm.{EncodingForm, encode}
use Rattle.widestring_c.proofs.Buffers.{is_none, Puts, nothing_yet, one_more_of, counted_all, written_all_of}
use Rattle.widestring_c.proofs.Windows.{drop-later, few_bytes, length-window, one_window}
use Rattle.widestring_c.proofs.from_utf8.put_text.Goals as goal

none_left : (form : EncodingForm) (bs : List ℕ) → length bs ≡ 0 → encode form (chars bs) ≡ []
unfolding chars
none_left form [] none = refl
none_left form (b ∷ bs) none = absurd (omega arith)

pub windows-init : goal.windows-init
windows-init g c = record {
  text = c.requires.text;
  so_far = nothing_yet (map g.C.Unit.number c.args.units.now) c.args.at (encode g.C.Unit.form (chars c.args.text.now)) (omega arith);
  space = refl;
  beyond = refl;
}

pub windows-preserved : goal.windows-preserved
windows-preserved g c =
    let form = g.C.Unit.form in
    let number = g.C.Unit.number in
    let first = map number c.args.units.now in
    let all = encode form (chars c.args.text.now) in
    let e = c.from_utf8_prefix-read.ensures in
    let len = c.windows.at + c.min-len.result - c.windows.at in
    let out = c.from_utf8_prefix-read.new.units in
    let prefix = map number (take c.from_utf8_prefix-read.result.written out) in
    let left = c.split_at.result.1.now in
    let end = min (c.args.at + length all) (2 ^ 64 - 1) in
    let back : drop c.from_utf8_prefix-read.result.read c.windows.rest.now ≡ left = sym c.split_at.ensures.back in
    let parts : encode form (chars c.windows.rest.now) ≡ prefix ++ encode form (chars left) = e.units ∙ ap (λ bs. prefix ++ encode form (chars bs)) back in
    let before : Puts first c.args.at all c.windows.at (map number c.windows.units) (prefix ++ encode form (chars left)) = subst (λ us. Puts first c.args.at all c.windows.at (map number c.windows.units) us) parts c.windows.invariant.so_far in
    let within : c.windows.at + len ≤ length c.windows.units = omega (arith, c.saturating_sub.ensures, c.if-saturating_sub-ge-WINDOW.true, c.min-len.ensures) in
    let long : length out ≡ len = omega (arith, within, c.from_utf8_prefix-read.auto.units, length-take len (drop c.windows.at c.windows.units), length-drop c.windows.at c.windows.units) in
    let later : c.windows.at + len ≤ end = omega (arith, within, c.requires.space, c.windows.invariant.space, c.min-len.ensures, c.windows.invariant.so_far.counted, few_bytes form c.windows.rest.now c.windows.invariant.text) in
    record {
      text = subst (λ bs. IsUtf8 bs) back e.rest;
      so_far = one_window number first c.args.at all c.windows.units out (encode form (chars left)) c.windows.at len c.from_utf8_prefix-read.result.written before within (omega (arith, c.requires.space, c.windows.invariant.space)) long (omega (arith, e.written, long));
      space = length-window c.windows.units out c.windows.at len within long ∙ c.windows.invariant.space;
      beyond = drop-put_mid c.windows.at len c.windows.units out end later (omega (arith, within)) long ∙ c.windows.invariant.beyond;
    }

pub chunks-init : goal.chunks-init
chunks-init g c = c.windows.invariant

pub chunks-preserved : goal.chunks-preserved
chunks-preserved g c =
    let form = g.C.Unit.form in
    let number = g.C.Unit.number in
    let first = map number c.args.units.now in
    let all = encode form (chars c.args.text.now) in
    let e = c.from_utf8_prefix-read-in-chunks.ensures in
    let put = c.put_items-at.ensures in
    let chunk = take c.from_utf8_prefix-read-in-chunks.result.written c.from_utf8_prefix-read-in-chunks.new.units in
    let left = c.split_at-in-chunks.result.1.now in
    let back : drop c.from_utf8_prefix-read-in-chunks.result.read c.chunks.rest.now ≡ left = sym c.split_at-in-chunks.ensures.back in
    let parts : encode form (chars c.chunks.rest.now) ≡ map number chunk ++ encode form (chars left) = e.units ∙ ap (λ bs. map number chunk ++ encode form (chars bs)) back in
    let before : Puts first c.args.at all c.chunks.at (map number c.chunks.units) (map number chunk ++ encode form (chars left)) = subst (λ us. Puts first c.args.at all c.chunks.at (map number c.chunks.units) us) parts c.chunks.invariant.so_far in
    record {
      text = subst (λ bs. IsUtf8 bs) back e.rest;
      so_far = one_more_of number first c.args.at all c.chunks.units c.put_items-at.new.space chunk (encode form (chars left)) c.chunks.at c.put_items-at.result before put.offset put.items put.space;
      space = put.space ∙ c.chunks.invariant.space;
      beyond = drop-later c.chunks.units c.put_items-at.new.space c.put_items-at.result (min (c.args.at + length all) (2 ^ 64 - 1)) (omega (arith, put.offset, before.counted, length-append (map number chunk) (encode form (chars left)), length-map chunk number)) put.beyond ∙ c.chunks.invariant.beyond;
    }

pub returns-clause-offset : goal.returns-clause-offset
returns-clause-offset g c =
    let first = map g.C.Unit.number c.args.units.now in
    let all = encode g.C.Unit.form (chars c.args.text.now) in
    let out = map g.C.Unit.number c.chunks.units in
    let none : length c.chunks.rest.now ≡ 0 = is_none (length c.chunks.rest.now) c.is_empty.result c.is_empty.ensures c.chunks-test.false in
    counted_all first c.args.at all out c.chunks.at (subst (λ us. Puts first c.args.at all c.chunks.at out us) (none_left g.C.Unit.form c.chunks.rest.now none) c.chunks.invariant.so_far)

pub returns-clause-units : goal.returns-clause-units
returns-clause-units g c = λ fits.
    let number = g.C.Unit.number in
    let first = map number c.args.units.now in
    let all = encode g.C.Unit.form (chars c.args.text.now) in
    let none : length c.chunks.rest.now ≡ 0 = is_none (length c.chunks.rest.now) c.is_empty.result c.is_empty.ensures c.chunks-test.false in
    written_all_of number c.args.units.now c.args.at all c.chunks.units c.chunks.at (subst (λ us. Puts first c.args.at all c.chunks.at (map number c.chunks.units) us) (none_left g.C.Unit.form c.chunks.rest.now none) c.chunks.invariant.so_far)
    (omega (arith, fits, c.chunks.invariant.space))

pub returns-clause-beyond : goal.returns-clause-beyond
returns-clause-beyond g c =
    let first = map g.C.Unit.number c.args.units.now in
    let all = encode g.C.Unit.form (chars c.args.text.now) in
    let out = map g.C.Unit.number c.chunks.units in
    let none : length c.chunks.rest.now ≡ 0 = is_none (length c.chunks.rest.now) c.is_empty.result c.is_empty.ensures c.chunks-test.false in
    let end : c.chunks.at ≡ min (c.args.at + length all) (2 ^ 64 - 1) =
    counted_all first c.args.at all out c.chunks.at (subst (λ us. Puts first c.args.at all c.chunks.at out us) (none_left g.C.Unit.form c.chunks.rest.now none) c.chunks.invariant.so_far) in
    subst (λ k. drop k c.chunks.units ≡ drop k c.args.units.now) (sym end) c.chunks.invariant.beyond
