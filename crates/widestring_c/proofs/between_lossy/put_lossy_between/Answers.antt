use Rattle.std.proofs.Common.{◌≡◌, ◌++◌, [], refl, ap, sym, ◌∙◌, subst, arith, length, map}
use Rattle.std.proofs.lemmas.List.{length-map}
use Rattle.std.proofs.lemmas.List.Concat.{flat_map-append}
use Rattle.wide_forms.specs.EncodingForm.{code_units, encode}
use Rattle.wide_forms.specs.Items.{chars, items}
use Rattle.wide_forms.specs.Lossy.{lossy_after, lossy_by}
use Rattle.wide_forms.specs.Laws.Policies.{lossy_after-none}
use Rattle.widestring_c.proofs.Buffers.{Puts, after_more, counted_all, is_none, nothing_yet, one_more_by, written_all_of}
use Rattle.widestring_c.proofs.Chunks.{lossy_between_end}
use Rattle.widestring_c.proofs.Fits.{exact_end, units-lossy_between}
use Rattle.widestring_c.proofs.between_lossy.put_lossy_between.Goals as goal

pub prefixes-init : goal.prefixes-init
prefixes-init g c =
    let form = g.C.Unit.form in
    let out = g.D.Unit.form in
    let is = items form (map g.C.Unit.number c.args.units.now) in
    let first = map g.D.Unit.number c.args.space.now in
    let all = encode out (lossy_by c.args.policy is) in
    record {
      so_far = subst (λ us. Puts first 0 all 0 first us) (ap (encode out) (sym (lossy_after-none c.args.policy is))) (nothing_yet first 0 all (omega arith));
      space = refl;
      beyond = refl;
      spare = c.requires.spare;
      chunk = c.requires.chunk;
    }

pub prefixes-preserved : goal.prefixes-preserved
prefixes-preserved g c =
    let form = g.C.Unit.form in
    let number = g.C.Unit.number in
    let out = g.D.Unit.form in
    let prefix = c.lossy_prefix-prefix.result in
    let put = c.put_recoded-at in
    let old = c.prefixes in
    let first = map g.D.Unit.number c.args.space.now in
    let all = encode out (lossy_by c.args.policy (items form (map number c.args.units.now))) in
    let here = chars form (map number prefix.text.now) in
    let rest = lossy_after c.args.policy prefix.after_fault (items form (map number prefix.rest.now)) in
    let text = encode out (lossy_after c.args.policy old.is_after (items form (map number old.rest.now))) in
    let parts : text ≡ encode out here ++ encode out rest = ap (encode out) c.lossy_prefix-prefix.ensures.text ∙ flat_map-append (code_units out) here rest in
    let before : Puts first 0 all old.at (map g.D.Unit.number old.space) (encode out here ++ encode out rest) = subst (λ us. Puts first 0 all old.at (map g.D.Unit.number old.space) us) parts old.invariant.so_far in
    record {
      so_far = one_more_by g.D.Unit.number first 0 all old.space put.new.space (encode out here) (encode out rest) old.at put.result before put.ensures.offset put.ensures.units put.ensures.space;
      space = put.ensures.space ∙ old.invariant.space;
      beyond = after_more c.args.space.now old.space put.new.space (length (encode out here)) old.at put.result before.most put.ensures.offset old.invariant.beyond put.ensures.beyond;
      spare = omega (arith, old.invariant.spare, c.lossy_prefix-prefix.auto.spare);
      chunk = omega (arith, old.invariant.chunk, put.auto.chunk);
    }

pub returns : goal.returns
returns g c =
    let form = g.C.Unit.form in
    let number = g.D.Unit.number in
    let out = g.D.Unit.form in
    let us = map g.C.Unit.number c.prefixes.rest.now in
    let first = map number c.args.space.now in
    let all = encode out (lossy_by c.args.policy (items form (map g.C.Unit.number c.args.units.now))) in
    let none : length us ≡ 0 = length-map c.prefixes.rest.now g.C.Unit.number ∙ is_none (length c.prefixes.rest.now) c.is_empty.result c.is_empty.ensures c.prefixes-test.false in
    let put : Puts first 0 all c.prefixes.at (map number c.prefixes.space) [] = subst (λ us. Puts first 0 all c.prefixes.at (map number c.prefixes.space) us) (lossy_between_end form out c.args.policy c.prefixes.is_after us none) c.prefixes.invariant.so_far in
    let exact = exact_end g.C.Unit.number c.args.units.now c.prefixes.at (length all) c.requires.units (units-lossy_between form out c.args.policy (map g.C.Unit.number c.args.units.now)) (counted_all first 0 all (map number c.prefixes.space) c.prefixes.at put) in
    record {
      len = exact.0;
      fits = exact.1;
      units = λ fits. written_all_of number c.args.space.now 0 all c.prefixes.space c.prefixes.at put (omega (arith, fits, c.prefixes.invariant.space));
      beyond = c.prefixes.invariant.beyond;
    }
