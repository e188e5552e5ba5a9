use Rattle.std.proofs.Common.{◌≡◌, ◌+◌, ◌-◌, ◌∙◌, IfNone, IfSome, arith, ap, get_or, map, subst, sym, take}
use Rattle.wide_forms.specs.Segmentation.{Char, Fault}
use Rattle.wide_conversions.specs.Utf8Items.{BeginsWith}
use Rattle.wide_conversions.proofs.LossyItems.{lossy-ascii, lossy-character, lossy-dropped, lossy-replaced}
use Rattle.wide_unit.proofs.StoredUnits.{stored-prefix}
use Rattle.wide_conversions.proofs.from_utf8_lossy.put_prefix.Goals as goal

pub returns-then-ascii-gt0-clause-units : goal.returns-then-ascii-gt0-clause-units
returns-then-ascii-gt0-clause-units g c =
    let bs = c.args.text.now in
    let number = g.C.Unit.number in
    let count = c.low_len-ascii.result in
    let few = c.low_len-ascii.ensures.within in
    let stored = stored-prefix number c.args.units.now c.put_bytes.new.units bs c.args.at 16 count (omega (arith, c.requires.space)) few c.put_bytes.ensures in
    lossy-ascii g.C.Unit.form c.args.policy bs _ _ count c.args.after_fault c.if-ascii-gt0.true (omega (arith, few, c.if-text-ge16.true)) c.low_len-ascii.ensures.low stored

pub returns-in-Some-clause-units : goal.returns-in-Some-clause-units
returns-in-Some-clause-units g c =
    let bs = c.args.text.now in
    let beyond = c.put_char-beyond in
    let same : c.args.at + (beyond.result - c.args.at) ≡ beyond.result = omega (arith, beyond.ensures.offset) in
    let begins = subst (λ o. IfSome o (λ d. BeginsWith bs (Char d) c.first_item-item.result.1)) c.in-Some.is c.first_item-item.ensures.character in
    lossy-character g.C.Unit.form c.args.policy bs _ _ c.first_item-item.result.1 c.in-Some.c c.args.after_fault begins (ap (λ n. map g.C.Unit.number (take n beyond.new.units)) same ∙ beyond.ensures.units)

pub returns-in_default-replacement-clause-units : goal.returns-in_default-replacement-clause-units
returns-in_default-replacement-clause-units g c =
    let bs = c.args.text.now in
    let same : c.args.at + 0 ≡ c.args.at = omega arith in
    let begins = subst (λ o. IfNone o (BeginsWith bs (Fault (get_or bs 0 0)) c.first_item-item.result.1)) c.in_default.is c.first_item-item.ensures.part in
    lossy-dropped g.C.Unit.form c.args.policy bs _ _ c.first_item-item.result.1 (get_or bs 0 0) c.args.after_fault begins (sym c.replacement.ensures ∙ c.in_default-replacement.is) (ap (λ n. map g.C.Unit.number (take n c.args.units.now)) same)

pub returns-clause-units : goal.returns-clause-units
returns-clause-units g c =
    let bs = c.args.text.now in
    let beyond = c.put_char-beyond-2 in
    let same : c.args.at + (beyond.result - c.args.at) ≡ beyond.result = omega (arith, beyond.ensures.offset) in
    let begins = subst (λ o. IfNone o (BeginsWith bs (Fault (get_or bs 0 0)) c.first_item-item.result.1)) c.in_default.is c.first_item-item.ensures.part in
    lossy-replaced g.C.Unit.form c.args.policy bs _ _ c.first_item-item.result.1 (get_or bs 0 0) c.in-Some-replacement.c c.args.after_fault begins (sym c.replacement.ensures ∙ c.in-Some-replacement.is) (ap (λ n. map g.C.Unit.number (take n beyond.new.units)) same ∙ beyond.ensures.units)
