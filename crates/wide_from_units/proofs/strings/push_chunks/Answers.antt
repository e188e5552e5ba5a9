use Rattle.std.proofs.Common.{◌≡◌, ◌++◌, ◌<◌, ap, sym, ◌∙◌, arith, length}
use Rattle.std.proofs.lemmas.List.{append-nil}
use Rattle.wide_from_units.proofs.Utf8Texts.{no_text}
use Rattle.wide_from_units.proofs.strings.push_chunks.Goals as goal

pub returns-in_err-extend_from_slice-clause-succeeds : goal.returns-in_err-extend_from_slice-clause-succeeds
returns-in_err-extend_from_slice-clause-succeeds g c = λ none.
    let empty : length c.args.units.now ≡ 0 = ap length none in
    let some : 0 < length c.chunks.rest.now = grind (arith, c.is_empty.ensures, c.chunks-test.true) in
    absurd (omega (arith, empty, some, c.chunks.invariant.within))

pub returns-clause-text : goal.returns-clause-text
returns-clause-text g c =
    let items = c.chunks.text.items in
    let rest : length c.chunks.rest.now ≡ 0 = grind (arith, c.is_empty.ensures, c.chunks-test.false) in
    sym (append-nil items) ∙ ap (λ bs. items ++ bs) (sym (no_text g.C.Unit.form g.C.Unit.number c.chunks.rest.now rest)) ∙ c.chunks.invariant.so_far
