use Rattle.std.proofs.Common.{◌≡◌, ◌∙◌, ◌++◌, ap, length, take, arith, length-set, length-take, get_or-take, sym, ℕ}
use Rattle.std.proofs.lemmas.List.{take_all}
use Rattle.wide_utf16_to_utf8.proofs.Shuffles.{same-more}
use Rattle.wide_forms.proofs.Stored.{stored-block}
use Rattle.wide_forms.proofs.Tables.{same-lists}
use Rattle.wide_utf16_to_utf8.proofs.to_utf8.put_eight_ascii.Goals as goal

pub loop-k-preserved : goal.loop-k-preserved
loop-k-preserved c = record {
  long = omega (arith, c.loop-k.invariant.long, length-set {A = ℕ});
  same = same-more c.loop-k.bytes c.args.units.now c.loop-k.k (omega (arith, c.loop-k.invariant.long)) c.loop-k.invariant.same;
}

pub returns : goal.returns
returns c =
    let long = c.loop-k.invariant.long in
    let units = c.args.units.now in
    let whole : take 8 c.loop-k.bytes ≡ c.loop-k.bytes = take_all 8 c.loop-k.bytes (omega arith) in
    let few : length (take 8 units) ≡ 8 = omega (arith, length-take 8 units, c.requires.whole) in
    let same : c.loop-k.bytes ≡ take 8 units = same-lists c.loop-k.bytes (take 8 units) (omega (arith, few, long)) (λ k within. c.loop-k.invariant.same k (omega (arith, within, long)) ∙ sym (get_or-take 8 units k 0 (omega (arith, within, long)))) in
    stored-block 8 c.args.out.now (take 8 c.loop-k.bytes) c.args.at (ap length whole ∙ long) c.requires.space ∙ ap (λ bs. take c.args.at c.args.out.now ++ bs) (whole ∙ same)
