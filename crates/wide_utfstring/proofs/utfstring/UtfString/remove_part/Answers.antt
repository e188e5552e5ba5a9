use Rattle.std.proofs.Common.{◌≡◌, [], sym, ◌∙◌, ap, map, subst}
use Rattle.std.specs.List.{splice}
use Rattle.wide_forms.specs.Items.{IsWellFormed}
use Rattle.wide_utfstring.proofs.utfstring.UtfString.remove_part.Goals as goal

pub invariant_of-self : goal.invariant_of-self
invariant_of-self g c =
    let gone : c.drop-drain.new.self.0.units ≡ splice c.args.self.now.units c.args.from c.args.to [] =
    c.drop-drain.ensures.units ∙ c.drain.ensures.leaves ∙ ap (λ s. splice s.units c.args.from c.args.to []) c.self.view_is
    in
    subst (λ us. IsWellFormed g.C.Unit.form (map g.C.Unit.number us)) (sym gone) c.requires.others
