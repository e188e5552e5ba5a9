use Rattle.std.proofs.Common.{◌≡◌, ◌+◌, ◌-◌, ap, sym, subst, arith, length, drop, get_or, refl, []}
use Rattle.wide_schemes.specs.Wtf8.{wtf8}
use Rattle.wide_schemes.proofs.Puts.{rest-slice}
use Rattle.wide_wtf8.specs.Lengths.{more_of, more_of_first}
use Rattle.wide_wtf8.proofs.Lengths.{all-units, len-parts, more-on}
use Rattle.wide_wtf8.proofs.Parts.{none-left}
use Rattle.wide_wtf8.proofs.length.wtf8_len.Goals as goal

pub returns-then-is_empty : goal.returns-then-is_empty
returns-then-is_empty c = ap length (none-left c.args.units.now [] (wtf8 c.args.units.now) (grind (arith, c.is_empty.ensures, c.if-is_empty.true)) refl)

pub counted-preserved : goal.counted-preserved
counted-preserved c =
    let i = c.counted.invariant in
    let us = c.args.units.now in
    let at = c.counted.at in
    let more : c.more_bytes-len.result ≡ more_of_first 4096 (drop at us) = subst (λ xs. c.more_bytes-len.result ≡ more_of_first 4096 xs) (rest-slice us at) c.more_bytes-len.ensures.more in
    record {
      last = i.last;
      within = omega (arith, c.counted-test.true);
      counted = omega (arith, i.counted, more, more-on us at 4096);
      few = omega (arith, i.few, c.more_bytes-len.ensures.most);
    }

pub returns : goal.returns
returns c =
    let i = c.counted.invariant in
    let us = c.args.units.now in
    let at = c.counted.at in
    let m = length us - 1 - at in
    let more : c.more_bytes-len-2.result ≡ more_of_first m (drop at us) = subst (λ xs. c.more_bytes-len-2.result ≡ more_of_first m xs) (rest-slice us at) c.more_bytes-len-2.ensures.more in
    let end : at + m ≡ length us - 1 = omega (arith, i.within) in
    let last : more_of (get_or us (length us - 1) 0) 0 ≡ more_of (get_or us (at + m) 0) 0 = ap (λ k. more_of (get_or us k 0) 0) (sym end) in
    omega (arith, i.counted, more, last, c.more_of.ensures.more, c.from.ensures, len-parts us at m (all-units us c.type_inv.units) (omega (arith, i.last, end)))
