use Rattle.std.proofs.Common.{arith, of_calls, ◌<◌, ◌∙◌, refl, sym, ap, subst, length, map, drop}
use Rattle.wide_forms.specs.Items.{IsWellFormed}
use Rattle.wide_ustring.proofs.CharFilters.{begins, ends, keeps, drops, asks}
use Rattle.wide_ustring.proofs.ustring.UString.retain_chars.Goals as goal

pub loop-at-init : goal.loop-at-init
loop-at-init g c = record {
  callable = search of_calls;
  filtered = begins g.C.Unit.form g.C.Unit.number (goal.F-step g) _ _ (subst (λ s. IsWellFormed g.C.Unit.form (map g.C.Unit.number s.units)) (sym c.self.view_is) c.requires.well_formed);
  space = refl;
}

pub char_at-c-requires-clause-well_formed : goal.char_at-c-requires-clause-well_formed
char_at-c-requires-clause-well_formed g c =
    let so_far = c.loop-at.invariant.filtered in
    subst (λ us. IsWellFormed g.C.Unit.form (map g.C.Unit.number us)) (sym (ap (drop c.loop-at.at) c.as_slice.ensures.value ∙ so_far.to_come)) so_far.rest_well_formed

pub loop-at-preserved-in-Some : goal.loop-at-preserved-in-Some
loop-at-preserved-in-Some g c =
    let more : c.loop-at.at < length c.loop-at.units.items = omega (arith, c.loop-at-test.true, c.len-len.ensures, c.self.inside.units.ok, c.loop-at.invariant.filtered.length_same) in record {
      callable = search of_calls;
      filtered = rw c.from-retained.ensures (asks g.C.Unit.form g.C.Unit.number (goal.F-step g) _ _ _ _ _ _ c.loop-at.invariant.filtered _ c.index-first.result.now c.in-Some.c c.keep.result more c.index-first.ensures c.in-Some.ensures.0 c.in-Some.ensures.1 c.keep.ensures);
      space = c.loop-at.invariant.space;
    }

pub loop-at-preserved-then-wanted : goal.loop-at-preserved-then-wanted
loop-at-preserved-then-wanted g c =
    let read = rw c.as_slice.ensures.value at c.char_at-c.ensures in record {
      callable = search of_calls;
      filtered = rw c.copy_char.ensures.units (keeps g.C.Unit.form g.C.Unit.number (goal.F-step g) _ _ _ _ _ _ c.loop-at.invariant.filtered _ c.char_at-c.result.0 c.char_at-c.result.1 read.after read.within read.first read.rest read.units (rw c.if-wanted.true at c.keep-wanted.ensures));
      space = cc;
    }

pub loop-at-preserved : goal.loop-at-preserved
loop-at-preserved g c =
    let read = rw c.as_slice.ensures.value at c.char_at-c.ensures in record {
      callable = search of_calls;
      filtered = drops g.C.Unit.form g.C.Unit.number (goal.F-step g) _ _ _ _ _ _ c.loop-at.invariant.filtered _ c.char_at-c.result.0 c.char_at-c.result.1 read.after read.within read.first read.rest (rw c.if-wanted.false at c.keep-wanted.ensures);
      space = c.loop-at.invariant.space;
    }

pub returns-clause-filtered : goal.returns-clause-filtered
returns-clause-filtered g c =
    rw (← c.self.view_is, c.truncate.ensures.items) (ends g.C.Unit.form g.C.Unit.number (goal.F-step g) _ _ _ _ _ _ c.loop-at.invariant.filtered (omega (arith, c.loop-at-test.false, c.len-len.ensures, c.self.inside.units.ok)))

pub returns-clause-well_formed : goal.returns-clause-well_formed
returns-clause-well_formed g c = rw c.truncate.ensures.items c.loop-at.invariant.filtered.kept_well_formed
