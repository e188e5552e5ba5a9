use Rattle.std.proofs.Common.{◌≡◌, ◌+◌, ◌-◌, ◌++◌, ◌∷◌, [], ap, sym, subst, arith, length, take, drop}
use Rattle.wide_schemes.specs.Wtf8.{wtf8}
use Rattle.wide_wtf8.specs.Faults.{IsWtf8Of}
use Rattle.wide_wtf8.specs.Halves.{AreApart, AreHalves}
use Rattle.wide_wtf8.proofs.Appends.{apart-text, from-third, joined-bytes, written-back}
use Rattle.wide_wtf8.proofs.appending.append_wtf8.Goals as goal

pub returns-in_default-clause-text : goal.returns-in_default-clause-text
returns-in_default-clause-text g c = λ us vs a b.
    let apart : AreApart c.args.text.now.items c.args.more.now = subst (λ xs. AreApart xs c.args.more.now) c.as_slice.ensures.value c.in_default.ensures.none in
    apart-text c.args.text.now.items c.args.more.now us vs c.extend_from_slice.new.self.items apart c.in_ok-extend_from_slice.ensures.items a b

pub returns-clause-text : goal.returns-clause-text
returns-clause-text g c = λ us vs a b.
    let text = c.args.text.now.items in
    let more = c.args.more.now in
    let h = c.in-Some.high in
    let l = c.in-Some.low in
    let ext = c.extend_from_slice-2.new.self.items in
    let bytes = c.put_pair.new.bytes in
    let at = c.len-at.result - 3 in
    let halves : AreHalves text more h l = subst (λ xs. AreHalves xs more h l) c.as_slice.ensures.value c.in-Some.ensures.some in
    let written : bytes ≡ take at ext ++ (wtf8 (h ∷ l ∷ []) ++ drop (at + 4) ext) = subst (λ xs. bytes ≡ take at xs ++ (wtf8 (h ∷ l ∷ []) ++ drop (at + 4) xs)) c.as_mut_slice.ensures.value c.put_pair.ensures in
    let is : at ≡ length text - 3 = omega (arith, c.len-at.ensures, c.as_slice.ensures.len, ap length c.as_slice.ensures.value) in
    let extended : ext ≡ text ++ drop 2 more = from-third ext text more c.in_ok-extend_from_slice-2.ensures.items in
    let same : c.extend_from_slice-2.new.self.len ≡ length bytes = omega (arith, c.as_mut_slice.ensures.len, c.put_pair.auto.bytes) in
    let joined = joined-bytes text more us vs h l halves a b ext bytes at is extended written in
    subst (IsWtf8Of (us ++ vs)) (sym (written-back bytes (drop (length bytes) ext) _ same)) joined
