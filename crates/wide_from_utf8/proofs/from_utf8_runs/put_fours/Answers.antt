use Rattle.std.proofs.Common.{◌≡◌, ◌*◌, ◌+◌, ◌-◌, arith, drop, length, map, subst, sym, take}
use Rattle.std.specs.Str.Pattern.{StartsWithChar}
use Rattle.wide_from_utf8.specs.Decoded.{IsDecoded}
use Rattle.wide_from_utf8.proofs.PrefixUnits.{decoded-beyond, decoded-char, decoded-none, decoded-then, four-read}
use Rattle.wide_from_utf8.proofs.from_utf8_runs.put_fours.Goals as goal

pub loop-k-init : goal.loop-k-init
loop-k-init g c = record { from = omega arith; few = omega arith; prefix = decoded-none g.C.Unit.form c.args.text.now _ c.requires.text }

pub char_of_four-c-requires-clause-scalar : goal.char_of_four-c-requires-clause-scalar
char_of_four-c-requires-clause-scalar g c =
    let bs = c.args.text.now in
    let k = c.loop-k.k in
    (four-read bs k c.loop-k-test.true c.requires.whole (decoded-beyond g.C.Unit.form bs _ _ (4 * k) c.loop-k.invariant.prefix) (c.requires.fours k c.loop-k-test.true)).0

pub char_of_four-c-requires-clause-beyond : goal.char_of_four-c-requires-clause-beyond
char_of_four-c-requires-clause-beyond g c =
    let bs = c.args.text.now in
    let k = c.loop-k.k in
    (four-read bs k c.loop-k-test.true c.requires.whole (decoded-beyond g.C.Unit.form bs _ _ (4 * k) c.loop-k.invariant.prefix) (c.requires.fours k c.loop-k-test.true)).2

pub loop-k-preserved : goal.loop-k-preserved
loop-k-preserved g c =
    let form = g.C.Unit.form in
    let number = g.C.Unit.number in
    let bs = c.args.text.now in
    let k = c.loop-k.k in
    let rest = take (length bs - 4 * k) (drop (4 * k) bs) in
    let prefix = c.loop-k.invariant.prefix in
    let put = c.put_char-beyond in
    let text = decoded-beyond form bs _ _ (4 * k) prefix in
    let read = four-read bs k c.loop-k-test.true c.requires.whole text (c.requires.fours k c.loop-k-test.true) in
    let code = c.char_of_four-c.result in
    let first : StartsWithChar rest code 4 = subst (λ v. StartsWithChar rest v 4) (sym c.char_of_four-c.ensures) read.1 in
    let next : 4 * k + 4 ≡ 4 * (k + 1) = omega arith in
    let both = decoded-then form bs _ _ _ (4 * k) 4 prefix (decoded-char form rest _ _ code 4 text first put.ensures.units) in
    record {
      from = omega (arith, c.loop-k.invariant.from, put.ensures.offset);
      few = omega (arith, c.loop-k.invariant.few, put.ensures.high);
      prefix = subst (λ n. IsDecoded form bs n (map number (take c.args.at c.args.units.now)) (map number (take put.result put.new.units))) next both;
    }
