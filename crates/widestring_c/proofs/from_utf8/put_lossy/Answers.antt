use Rattle.std.proofs.Common.{◌≡◌, ◌++◌, [], ap, sym, ◌∙◌, subst, arith, drop, length, map, take}
use Rattle.std.specs.Str.{chars}
use Rattle.wide_forms.specs.EncodingForm.{encode}
use Rattle.wide_forms.specs.Lossy.{lossy_after, lossy_by}
use Rattle.wide_conversions.specs.Utf8Items.{IsLossyPrefix, utf8_items}
use Rattle.widestring_c.proofs.Buffers.{is_none, Puts, one_more_by, one_more_of, after_more, counted_all, written_all_of}
use Rattle.widestring_c.proofs.Chunks.{lossy_end, lossy_prefix}
use Rattle.widestring_c.proofs.Fits.{units-lossy_by}
use Rattle.widestring_c.proofs.from_utf8.put_lossy.Goals as goal

pub prefixes-preserved : goal.prefixes-preserved
prefixes-preserved g c =
    let form = g.C.Unit.form in
    let number = g.C.Unit.number in
    let policy = c.args.policy in
    let first = map number c.args.units.now in
    let all = encode form (lossy_by policy (utf8_items c.args.text.now)) in
    let bs = c.prefixes.rest.now in
    let prefix = c.split_at.result.0.now in
    let beyond = c.split_at.result.1.now in
    let put = c.put_text-at in
    let step = c.from_utf8_lossy_prefix-step in
    let chunk = take step.result.written step.new.units in
    let tail = c.split_at-in-prefixes.result.1.now in
    let more = c.put_items-at in
    let left = encode form (lossy_after policy step.result.after_fault (utf8_items tail)) in
    let items = subst (λ xs. IsLossyPrefix form policy xs step.result.read c.is_after_fault-after_fault.result step.result.after_fault [] (map number chunk)) c.split_at.ensures.back step.ensures.units in
    let parts : encode form (lossy_after policy c.prefixes.after_fault (utf8_items bs)) ≡ encode form (chars prefix) ++ (map number chunk ++ left) =
    lossy_prefix form policy bs (map number chunk) c.text_len-len.result step.result.read c.prefixes.after_fault c.is_after_fault-after_fault.result step.result.after_fault c.text_len-len.ensures.within c.text_len-len.ensures.text c.is_after_fault-after_fault.ensures.same c.is_after_fault-after_fault.ensures.other items
    ∙ ap (λ xs. encode form (chars xs) ++ (map number chunk ++ encode form (lossy_after policy step.result.after_fault (utf8_items (drop step.result.read (drop c.text_len-len.result bs)))))) (sym c.split_at.ensures.front)
    ∙ ap (λ xs. encode form (chars prefix) ++ (map number chunk ++ encode form (lossy_after policy step.result.after_fault (utf8_items xs)))) (ap (drop step.result.read) (sym c.split_at.ensures.back) ∙ sym c.split_at-in-prefixes.ensures.back)
    in
    let before : Puts first 0 all c.prefixes.at (map number c.prefixes.units) (encode form (chars prefix) ++ (map number chunk ++ left)) = subst (λ us. Puts first 0 all c.prefixes.at (map number c.prefixes.units) us) parts c.prefixes.invariant.so_far in
    let text : Puts first 0 all put.result (map number put.new.units) (map number chunk ++ left) = one_more_by number first 0 all c.prefixes.units put.new.units (encode form (chars prefix)) (map number chunk ++ left) c.prefixes.at put.result before put.ensures.offset put.ensures.units put.ensures.space in
    record {
      so_far = one_more_of number first 0 all put.new.units more.new.space chunk left put.result more.result text more.ensures.offset more.ensures.items more.ensures.space;
      space = more.ensures.space ∙ put.ensures.space ∙ c.prefixes.invariant.space;
      beyond = after_more c.args.units.now put.new.units more.new.space (length chunk) put.result more.result text.most more.ensures.offset
          (after_more c.args.units.now c.prefixes.units put.new.units _ c.prefixes.at put.result before.most put.ensures.offset c.prefixes.invariant.beyond put.ensures.beyond) more.ensures.beyond;
    }

pub returns : goal.returns
returns g c =
    let number = g.C.Unit.number in
    let first = map number c.args.units.now in
    let all = encode g.C.Unit.form (lossy_by c.args.policy (utf8_items c.args.text.now)) in
    let none : length c.prefixes.rest.now ≡ 0 = is_none (length c.prefixes.rest.now) c.is_empty.result c.is_empty.ensures c.prefixes-test.false in
    let put : Puts first 0 all c.prefixes.at (map number c.prefixes.units) [] = subst (λ us. Puts first 0 all c.prefixes.at (map number c.prefixes.units) us) (lossy_end g.C.Unit.form c.args.policy c.prefixes.after_fault c.prefixes.rest.now none) c.prefixes.invariant.so_far in
    let counted = counted_all first 0 all (map number c.prefixes.units) c.prefixes.at put in
    let most = units-lossy_by g.C.Unit.form c.args.policy c.args.text.now in
    record {
      len = omega (arith, counted, most);
      fits = omega (arith, counted, most);
      units = λ fits. written_all_of number c.args.units.now 0 all c.prefixes.units c.prefixes.at put (omega (arith, fits, c.prefixes.invariant.space));
      beyond = c.prefixes.invariant.beyond;
    }
