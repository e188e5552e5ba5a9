use Rattle.std.proofs.Common.{◌≡◌, ◌-◌, refl, sym, ◌∙◌, ap, subst, map, length}
use Rattle.wide_forms.specs.Offsets.{IsCharBoundary}
use Rattle.wide_search.proofs.Texts.{ends-start}
use Rattle.wide_utfstr.specs.View.{units_seen}
use Rattle.wide_utfstr.proofs.view.UtfStr.strip_suffix.Goals as goal

pub split_at-requires : goal.split_at-requires
split_at-requires g c =
    let form = g.C.Unit.form in
    let number = g.C.Unit.number in
    let us = units_seen c.args.self in
    let at : c.len.result - c.len-2.result ≡ length us - length (units_seen c.args.needle) = ap (λ n. n - c.len-2.result) c.len.ensures ∙ ap (λ n. length us - n) c.len-2.ensures in
    subst (λ n. IsCharBoundary form (map number us) n) (sym at) (ends-start form number us c.args.self.well_formed (units_seen c.args.needle) c.args.needle.well_formed (c.if-not-ends_with.ensures.0 refl))
