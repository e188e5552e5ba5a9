use Rattle.std.proofs.Common.{◌≡◌, ◌++◌, ◌∷◌, ℕ, List, [], refl, ap, sym, ◌∙◌, subst, arith, length, map, take}
use Rattle.wide_forms.specs.EncodingForm.{EncodingForm, encode}
use Rattle.wide_forms.specs.Items.{IsWellFormed, chars}
use Rattle.wide_forms.specs.Laws.Items.{items-nil}
use Rattle.wide_forms.specs.Items.{characters}
use Rattle.widestring_c.proofs.Buffers.{is_none, Puts, nothing_yet, one_more_of, after_more, counted_all, written_all_of}
use Rattle.widestring_c.proofs.between.put_recoded.Goals as goal

none_left : {X : Type 0} (form out : EncodingForm) (number : X → ℕ) (us : List X) → length us ≡ 0 → encode out (chars form (map number us)) ≡ []
none_left form out number [] none = ap (λ is. encode out (characters is)) (items-nil form)
none_left form out number (u ∷ us) none = absurd (omega arith)

pub chunks-init : goal.chunks-init
chunks-init g c = record {
  well_formed = c.requires.well_formed;
  so_far = nothing_yet (map g.D.Unit.number c.args.space.now) c.args.at (encode g.D.Unit.form (chars g.C.Unit.form (map g.C.Unit.number c.args.units.now))) (omega arith);
  space = refl;
  beyond = refl;
}

pub chunks-preserved : goal.chunks-preserved
chunks-preserved g c =
    let form = g.C.Unit.form in
    let number = g.C.Unit.number in
    let out = g.D.Unit.form in
    let first = map g.D.Unit.number c.args.space.now in
    let all = encode out (chars form (map number c.args.units.now)) in
    let e = c.between_forms_prefix-read.ensures in
    let put = c.put_items-at.ensures in
    let chunk = take c.between_forms_prefix-read.result.written c.between_forms_prefix-read.new.out in
    let left = c.split_at.result.1.now in
    let parts : encode out (chars form (map number c.chunks.rest.now)) ≡ map g.D.Unit.number chunk ++ encode out (chars form (map number left)) = e.units ∙ ap (λ us. map g.D.Unit.number chunk ++ encode out (chars form (map number us))) (sym c.split_at.ensures.back) in
    let before : Puts first c.args.at all c.chunks.at (map g.D.Unit.number c.chunks.space) (map g.D.Unit.number chunk ++ encode out (chars form (map number left))) = subst (λ us. Puts first c.args.at all c.chunks.at (map g.D.Unit.number c.chunks.space) us) parts c.chunks.invariant.so_far in
    record {
      well_formed = subst (λ us. IsWellFormed form (map number us)) (sym c.split_at.ensures.back) e.rest;
      so_far = one_more_of g.D.Unit.number first c.args.at all c.chunks.space c.put_items-at.new.space chunk (encode out (chars form (map number left))) c.chunks.at c.put_items-at.result before put.offset put.items put.space;
      space = put.space ∙ c.chunks.invariant.space;
      beyond = after_more c.args.space.now c.chunks.space c.put_items-at.new.space (length chunk) c.chunks.at c.put_items-at.result before.most put.offset c.chunks.invariant.beyond put.beyond;
    }

pub returns-clause-offset : goal.returns-clause-offset
returns-clause-offset g c =
    let first = map g.D.Unit.number c.args.space.now in
    let all = encode g.D.Unit.form (chars g.C.Unit.form (map g.C.Unit.number c.args.units.now)) in
    let none : length c.chunks.rest.now ≡ 0 = is_none (length c.chunks.rest.now) c.is_empty.result c.is_empty.ensures c.chunks-test.false in
    omega (arith, counted_all first c.args.at all (map g.D.Unit.number c.chunks.space) c.chunks.at (subst (λ us. Puts first c.args.at all c.chunks.at (map g.D.Unit.number c.chunks.space) us) (none_left g.C.Unit.form g.D.Unit.form g.C.Unit.number c.chunks.rest.now none) c.chunks.invariant.so_far))

pub returns-clause-units : goal.returns-clause-units
returns-clause-units g c = λ fits.
    let first = map g.D.Unit.number c.args.space.now in
    let all = encode g.D.Unit.form (chars g.C.Unit.form (map g.C.Unit.number c.args.units.now)) in
    let none : length c.chunks.rest.now ≡ 0 = is_none (length c.chunks.rest.now) c.is_empty.result c.is_empty.ensures c.chunks-test.false in
    written_all_of g.D.Unit.number c.args.space.now c.args.at all c.chunks.space c.chunks.at (subst (λ us. Puts first c.args.at all c.chunks.at (map g.D.Unit.number c.chunks.space) us) (none_left g.C.Unit.form g.D.Unit.form g.C.Unit.number c.chunks.rest.now none) c.chunks.invariant.so_far)
    (omega (arith, fits, c.chunks.invariant.space))
