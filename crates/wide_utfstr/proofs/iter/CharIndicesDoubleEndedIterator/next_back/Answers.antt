use Rattle.std.proofs.Common.{refl, sym, ap, ◌∙◌, ◌+◌, ◌++◌, ◌∷◌, [], map}
use Rattle.wide_forms.specs.Items.{chars}
use Rattle.wide_utfstr.specs.Indexed.{indexed_chars}
use Rattle.wide_utfstr.proofs.IndexedLemmas.{indexed_chars-last}
use Rattle.wide_utfstr.proofs.iter.CharIndicesDoubleEndedIterator.next_back.Goals as goal

pub returns-clause-steps : goal.returns-clause-steps
returns-clause-steps g c =
    let s = c.args.self.now in
    let others = c.in_ok-others.others in
    let last = indexed_chars-last g.C.Unit.form g.C.Unit.number s.offset s.text.units.now others.units.now c.in_ok-others.c others.well_formed c.in_ok-others.ensures.some in
    (last ∙ ap (λ n. indexed_chars g.C.Unit.form s.offset (chars g.C.Unit.form (map g.C.Unit.number others.units.now)) ++ (s.offset + n, c.in_ok-others.c) ∷ []) (sym c.len.ensures), refl)
