use Rattle.std.proofs.Common.{◌≡◌, ◌∙◌, ◌++◌, ◌+◌, ◌-◌, ap, sym, arith, length, length-set, map, set, take}
use Rattle.std.proofs.lemmas.List.{length-map, map-append, take_all}
use Rattle.std.proofs.lemmas.Slice.{take-put_mid}
use borrow.Rule.Slice.PartMut.{put_mid}
use Rattle.wide_forms.specs.Laws.Forms.{scalar_from}
use Rattle.wide_from_units.proofs.RecodedPrefixes.{number-at}
use Rattle.wide_unit.proofs.StoredUnits.{stored-more, unit-number}
use Rattle.wide_from_units.proofs.between_forms.put_plain.Goals as goal

pub char_of-requires : goal.char_of-requires
char_of-requires g c =
    let k = c.loop-k.k in
    let is = number-at g.C.Unit.number c.args.block.now k c.index-block-k.result (omega (arith, c.requires.whole)) c.index-block-k.is in
    scalar_from c.code.result (record { below = omega (arith, c.code.ensures, is, c.requires.below k c.loop-k-test.true); no_surrogate = λ from. omega (arith, c.code.ensures, is, c.requires.characters k c.loop-k-test.true (omega (arith, from, c.code.ensures, is))) })

pub loop-k-preserved : goal.loop-k-preserved
loop-k-preserved g c =
    let k = c.loop-k.k in
    let units = c.args.block.now in
    let cs = map g.C.Unit.number units in
    let unit = c.encode_char-unit.result in
    let code = c.char_of.ensures ∙ c.code.ensures ∙ number-at g.C.Unit.number units k c.index-block-k.result (omega (arith, c.requires.whole)) c.index-block-k.is in
    let is = unit-number g.D.Unit.number g.D.Unit.form c.char_of.result unit.0 unit.1 c.encode_char-unit.ensures (omega (arith, code, c.requires.below k c.loop-k-test.true)) ∙ code in
    let own = c.loop-k.own in
    let here : 0 + k ≡ k = omega arith in
    let next : k + 1 ≡ 0 + (k + 1) = omega arith in
    record {
      long = omega (arith, c.loop-k.invariant.long, length-set {A = g.row.D.Denot});
      units = ap (λ n. map g.D.Unit.number (take n (set own k unit.0))) next ∙ ap (λ n. map g.D.Unit.number (take (0 + (k + 1)) (set own n unit.0))) (sym here)
          ∙ stored-more g.D.Unit.number own own cs 0 k unit.0 (omega (arith, c.loop-k.invariant.long)) (omega (arith, c.requires.whole, length-map units g.C.Unit.number)) is (ap (λ n. map g.D.Unit.number (take n own)) here ∙ c.loop-k.invariant.units);
    }

pub returns : goal.returns
returns g c =
    let number = g.D.Unit.number in
    let at = c.args.at in
    let out = c.args.out.now in
    let own = c.loop-k.own in
    let cs = map g.C.Unit.number c.args.block.now in
    let k = c.loop-k.k in
    let long = c.loop-k.invariant.long in
    let whole : take k own ≡ own = take_all k own (omega arith) in
    let stored : map number own ≡ cs = sym (ap (map number) whole) ∙ c.loop-k.invariant.units ∙ take_all k cs (omega (arith, length-map c.args.block.now g.C.Unit.number, c.requires.whole)) in
    let new = c.copy_from_slice.new.self in
    let same : new ≡ own = c.copy_from_slice.ensures.after in
    let space : at + 16 ≡ at + length new = omega (arith, ap length same, long) in
    let prefix : take (at + 16) (put_mid at (at + 16 - at) out new) ≡ take at out ++ new = take-put_mid at (at + 16 - at) out new (at + 16) space (omega (arith, c.requires.space)) in
    ap (map number) prefix ∙ map-append number (take at out) new ∙ ap (λ us. map number (take at out) ++ us) (ap (map number) same ∙ stored)
