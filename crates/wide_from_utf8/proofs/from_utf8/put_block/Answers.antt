use Rattle.std.proofs.Common.{◌≡◌, ◌+◌, ◌-◌, arith, map, refl, subst, take}
use Rattle.wide_from_utf8.specs.Decoded.{IsDecoded, codes_of_three}
use Rattle.wide_from_utf8.proofs.PrefixUnits.{decoded-ascii, decoded-beyond, decoded-then, prefix_units-threes, joined}
use Rattle.wide_from_utf8.proofs.from_utf8.put_block.Goals as goal

pub put_ascii_blocks-more-requires-clause-text : goal.put_ascii_blocks-more-requires-clause-text
put_ascii_blocks-more-requires-clause-text g c =
    let bs = c.args.text.now in
    let all = c.low_len.ensures.low in
    decoded-beyond g.C.Unit.form bs _ _ 16 (decoded-ascii g.C.Unit.form bs _ _ 16 c.requires.text (omega (arith, c.requires.whole)) (λ k within. all k (omega (arith, within, c.if-low_len-eq16.true))) c.put_bytes.ensures)

pub returns-then-low_len-eq16-clause-units : goal.returns-then-low_len-eq16-clause-units
returns-then-low_len-eq16-clause-units g c =
    let form = g.C.Unit.form in
    let number = g.C.Unit.number in
    let bs = c.args.text.now in
    let at = c.args.at in
    let more = c.put_ascii_blocks-more.result in
    let offset : at + 16 + more ≡ at + (16 + more) = omega arith in
    let all = c.low_len.ensures.low in
    let first = decoded-ascii form bs _ _ 16 c.requires.text (omega (arith, c.requires.whole)) (λ k within. all k (omega (arith, within, c.if-low_len-eq16.true))) c.put_bytes.ensures in
    let ours = map number (take at c.args.units.now) in
    subst (λ n. IsDecoded form bs (16 + more) ours (map number (take n c.put_ascii_blocks-more.new.units))) offset (decoded-then form bs ours _ _ 16 more first c.put_ascii_blocks-more.ensures.units)

pub returns-then-are_fours-clause-units : goal.returns-then-are_fours-clause-units
returns-then-are_fours-clause-units g c =
    let number = g.C.Unit.number in
    let at = c.args.at in
    let put = c.put_fours in
    let offset : put.result ≡ at + (put.result - at) = omega (arith, put.ensures.from) in
    subst (λ n. IsDecoded g.C.Unit.form c.args.text.now 16 (map number (take at c.args.units.now)) (map number (take n put.new.units))) offset put.ensures.units

pub put_threes-requires-clause-scalars : goal.put_threes-requires-clause-scalars
put_threes-requires-clause-scalars g c = (prefix_units-threes g.C.Unit.form 5 15 c.args.text.now c.requires.text refl (c.are_threes.ensures c.if-are_threes.true)).1

pub put_threes-requires-then-are_threes-2-clause-scalars : goal.put_threes-requires-then-are_threes-2-clause-scalars
put_threes-requires-then-are_threes-2-clause-scalars g c =
    let form = g.C.Unit.form in
    let bs = c.args.text.now in
    let prefix = (prefix_units-threes form 5 15 bs c.requires.text refl (c.are_threes.ensures c.if-are_threes.true)).0 in
    let first = joined form bs _ _ (take 5 (codes_of_three bs)) 15 c.put_threes.ensures prefix in
    (prefix_units-threes form 5 15 _ (decoded-beyond form bs _ _ 15 first) refl (c.are_threes-then-are_threes.ensures c.if-are_threes-2.true)).1

pub returns-then-are_threes-2-clause-units : goal.returns-then-are_threes-2-clause-units
returns-then-are_threes-2-clause-units g c =
    let form = g.C.Unit.form in
    let number = g.C.Unit.number in
    let bs = c.args.text.now in
    let at = c.args.at in
    let stored = c.put_threes-then-are_threes-2 in
    let offset : at + 5 + 5 ≡ at + 10 = omega arith in
    let prefix = (prefix_units-threes form 5 15 bs c.requires.text refl (c.are_threes.ensures c.if-are_threes.true)).0 in
    let first = joined form bs _ _ (take 5 (codes_of_three bs)) 15 c.put_threes.ensures prefix in
    let back = (prefix_units-threes form 5 15 _ (decoded-beyond form bs _ _ 15 first) refl (c.are_threes-then-are_threes.ensures c.if-are_threes-2.true)).0 in
    let second = joined form _ _ _ (take 5 (codes_of_three _)) 15 stored.ensures back in
    subst (λ n. IsDecoded form bs 30 (map number (take at c.args.units.now)) (map number (take n stored.new.units))) offset (decoded-then form bs _ _ _ 15 15 first second)
