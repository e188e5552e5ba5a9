use Rattle.std.proofs.Common.{◌+◌, ◌∙◌, refl, sym, ap, arith, length, take, drop}
use Rattle.wide_search.proofs.Offsets.{no-units, some-units}
use Rattle.wide_ustring.proofs.Overwritten.{overwritten-one, overwritten-none, overwritten-empty}
use Rattle.wide_ustring.proofs.overwriting.overwrite.Goals as goal

pub returns-then-is_empty-clause-units : goal.returns-then-is_empty-clause-units
returns-then-is_empty-clause-units g c = overwritten-empty g.C.Unit.number g.met.C.Unit.same c.args.needle.now c.args.with.now c.args.units.now (no-units c.args.needle.now c.if-is_empty.ensures)

pub loop-found-preserved : goal.loop-found-preserved
loop-found-preserved g c =
    let needle = c.args.needle.now in
    record {
      within = omega (arith, c.in-Some.ensures.within, c.put.ensures.len);
      len = c.put.ensures.len ∙ c.loop-found.invariant.len;
      units = c.loop-found.invariant.units
          ∙ overwritten-one g.C.Unit.number g.met.C.Unit.same needle c.args.with.now c.loop-found.units c.put.new.units c.loop-found.at c.in-Some.found (length needle) c.loop-found.invariant.within (some-units needle c.if-is_empty.ensures) refl
          c.in-Some.ensures.first
          (ap (λ n. take (c.in-Some.found + n) c.put.new.units) (sym c.requires) ∙ c.put.ensures.prefix)
          (ap (λ n. drop (c.in-Some.found + n) c.put.new.units) (sym c.requires) ∙ c.put.ensures.beyond ∙ ap (λ n. drop (c.in-Some.found + n) c.loop-found.units) c.requires);
    }

pub returns-clause-units : goal.returns-clause-units
returns-clause-units g c = sym (c.loop-found.invariant.units ∙ overwritten-none g.C.Unit.number g.met.C.Unit.same c.args.needle.now c.args.with.now c.loop-found.units c.loop-found.at c.loop-found.invariant.within c.in_default.ensures.none)
