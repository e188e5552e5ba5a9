use Rattle.std.proofs.Common.{refl, sym, subst, map}
use Rattle.wide_forms.specs.Offsets.{IsCharBoundary}
use Rattle.wide_search.proofs.Texts.{begins-end}
use Rattle.wide_utfstr.specs.View.{units_seen}
use Rattle.wide_utfstr.proofs.view.UtfStr.strip_prefix.Goals as goal

pub split_at-requires : goal.split_at-requires
split_at-requires g c =
    let form = g.C.Unit.form in
    let number = g.C.Unit.number in
    let us = units_seen c.args.self in
    subst (λ n. IsCharBoundary form (map number us) n) (sym c.len.ensures) (begins-end form number us c.args.self.well_formed (units_seen c.args.needle) c.args.needle.well_formed (c.if-not-starts_with.ensures.0 refl))
