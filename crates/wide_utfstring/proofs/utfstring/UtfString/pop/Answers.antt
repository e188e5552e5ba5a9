use Rattle.std.proofs.Common.{◌≡◌, [], ◌∷◌, ◌++◌, map, length, take, sym, ap, ◌∙◌}
use Rattle.wide_forms.specs.Segmentation.{Char}
use Rattle.wide_forms.specs.Items.{items, characters, IsWellFormed}
use Rattle.wide_unit.specs.Unit.{item_of}
use Rattle.wide_forms.specs.Laws.WellFormed.{no_last_fault, well_formed-prefix, characters-push}
use Rattle.wide_utfstring.proofs.utfstring.UtfString.pop.Goals as goal

pub unreachable-requires : goal.unreachable-requires
unreachable-requires g c =
    let form = g.C.Unit.form in
    let number = g.C.Unit.number in
    let us = map number c.as_slice.result.now in
    let rest = map number c.in_ok-rest.rest.now in
    let well : IsWellFormed form us = rw c.as_slice.ensures c.self.invariant in
    no_last_fault form us rest well (number c.in_default.field-0) (c.in_ok-rest.ensures.some ∙ ap (λ r. items form rest ++ item_of number r ∷ []) c.in_default.is)

pub invariant_of-self : goal.invariant_of-self
invariant_of-self g c =
    let form = g.C.Unit.form in
    let number = g.C.Unit.number in
    let us = map number c.as_slice.result.now in
    let rest = map number c.in_ok-rest.rest.now in
    let well : IsWellFormed form us = rw c.as_slice.ensures c.self.invariant in
    let split : items form us ≡ items form rest ++ Char c.in-Ok.c ∷ [] = c.in_ok-rest.ensures.some ∙ ap (λ r. items form rest ++ item_of number r ∷ []) c.in-Ok.is in
    let left : c.truncate.new.self.units ≡ c.in_ok-rest.rest.now = c.truncate.ensures.units ∙ ap (take (length c.in_ok-rest.rest.now)) (sym c.as_slice.ensures) ∙ sym c.in_ok-rest.ensures.rest in
    rw left (well_formed-prefix form us rest well c.in-Ok.c split)

pub returns-clause-taken : goal.returns-clause-taken
returns-clause-taken g c =
    let form = g.C.Unit.form in
    let number = g.C.Unit.number in
    let us = map number c.as_slice.result.now in
    let rest = map number c.in_ok-rest.rest.now in
    let split : items form us ≡ items form rest ++ Char c.in-Ok.c ∷ [] = c.in_ok-rest.ensures.some ∙ ap (λ r. items form rest ++ item_of number r ∷ []) c.in-Ok.is in
    let left : c.truncate.new.self.units ≡ c.in_ok-rest.rest.now = c.truncate.ensures.units ∙ ap (take (length c.in_ok-rest.rest.now)) (sym c.as_slice.ensures) ∙ sym c.in_ok-rest.ensures.rest in
    rw (← c.self.view_is, ← c.as_slice.ensures, left) (ap characters split ∙ characters-push (items form rest) c.in-Ok.c)
