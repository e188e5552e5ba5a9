use Rattle.std.proofs.Common.{◌≡◌, true, ◌∷◌, ◌++◌, ap, sym, ◌∙◌, refl, subst, encode_utf8_all}
use Rattle.std.proofs.lemmas.Bool.{and_parts}
use Rattle.std.proofs.lemmas.List.Concat.{flat_map-append}
use Rattle.std.specs.Char.Iter.{escape_rest}
use Rattle.std.specs.List.{flat_map, list_all}
use Rattle.wide_forms.specs.Utf8.{utf8, utf8_bytes}
use Rattle.wide_forms.specs.Laws.Utf8.{utf8-encode_utf8_all}
use Rattle.wide_unit.proofs.Printed.{styled-none, styled-more, styled-all, plain-of_styled}
use Rattle.wide_utfstr.specs.Pending.{pending_rest}
use Rattle.wide_utfstr.specs.Iter.{chars_left}
use Rattle.wide_utfstr.specs.Escapes.{escapes_rest, escapes_left}
use Rattle.wide_utfstr.proofs.escapes.Escapes.write.Goals as goal

pub loop-c-init : goal.loop-c-init
loop-c-init g c = λ all flush.
    let form = g.C.Unit.form in
    let number = g.C.Unit.number in
    let escaped = g.E.Escaping.escaped in
    let xs = pending_rest escape_rest c.args.self.now.current in
    let cs = escapes_rest c.args.self.now in
    let whole = utf8 (escapes_left escaped c.args.self.now) in
    let left = chars_left form number c.into_iter-c-iterator.result in
    let same : cs ≡ left = sym (ap (chars_left form number) c.into_iter-c-iterator.ensures.into_iter_gives ∙ c.chars-c-items.ensures.characters) in (
      subst (λ ds. list_all g.E.Escaping.is_specified ds ≡ true) same all,
      styled-more (encode_utf8_all xs) (utf8 (flat_map escaped left)) (styled-none whole whole flush (refl {a = whole})) (c.in_ok-write_pending.ensures.styled flush (refl {a = true}))
          (flat_map-append utf8_bytes xs (flat_map escaped cs) ∙ ap (λ bs. bs ++ utf8 (flat_map escaped cs)) (utf8-encode_utf8_all xs) ∙ ap (λ ds. encode_utf8_all xs ++ utf8 (flat_map escaped ds)) same),
    )

pub loop-c-preserved : goal.loop-c-preserved
loop-c-preserved g c = λ all flush.
    let reported = g.E.Escaping.is_specified in
    let escaped = g.E.Escaping.escaped in
    let cs = chars_left g.C.Unit.form g.C.Unit.number c.next.new.self in
    let rest = flat_map escaped cs in
    let xs = escape_rest c.escape.result in
    let x = c.in-Some.c in
    let so_far = c.loop-c.invariant all flush in
    let left : list_all reported (x ∷ cs) ≡ true = ap (list_all reported) (sym c.in-Some.ensures.steps) ∙ so_far.0 in
    let both = and_parts (reported x) (list_all reported cs) left in
    let bytes : encode_utf8_all xs ≡ utf8 (escaped x) = sym (utf8-encode_utf8_all xs) ∙ ap utf8 (c.escape.ensures.rest both.0) in (
      both.1,
      styled-more (encode_utf8_all xs) (utf8 rest) so_far.1 (c.in_ok-write_escape.ensures.styled so_far.1.wrote.flush (refl {a = true}))
          (ap (λ ds. utf8 (flat_map escaped ds)) c.in-Some.ensures.steps ∙ flat_map-append utf8_bytes (escaped x) rest ∙ ap (λ bs. bs ++ utf8 rest) (sym bytes)),
    )

pub returns-clause-styled : goal.returns-clause-styled
returns-clause-styled g c = λ all flush _. styled-all (c.loop-c.invariant all flush).1 (ap (λ cs. utf8 (flat_map g.E.Escaping.escaped cs)) c.in-None.ensures.steps.0)

pub returns-clause-writes : goal.returns-clause-writes
returns-clause-writes g c = λ all plain done. plain-of_styled plain (returns-clause-styled g c all plain.flush done)
