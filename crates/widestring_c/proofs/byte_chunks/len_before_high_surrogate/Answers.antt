use Rattle.std.proofs.Common.{◌≡◌, ◌-◌, ◌+◌, ◌++◌, ◌∙◌, ap, sym, subst, arith, take, drop, get_or}
use Rattle.wide_forms.specs.EncodingForm.{Utf16}
use Rattle.wide_forms.specs.Laws.Items.{IsCut}
use Rattle.wide_bytes.specs.Bytes.{unit_in, units_in}
use Rattle.widestring_c.proofs.Cuts.{cut-at_prefix, cut-before_high, cut-after_plain}
use Rattle.widestring_c.proofs.byte_chunks.len_before_high_surrogate.Goals.{else-prefix-ge2-via-then-prefix-ge2+else-is_high_surrogate, else-prefix-ge2-via-else-prefix-ge2}
use Rattle.widestring_c.proofs.byte_chunks.len_before_high_surrogate.Goals as goal

pub returns-then-is_high_surrogate-clause-cut : goal.returns-then-is_high_surrogate-clause-cut
returns-then-is_high_surrogate-clause-cut c =
    let some = c.if-prefix-ge2.true in
    let next : c.args.prefix - 1 ≡ c.args.prefix - 2 + 1 = omega (arith, some) in
    let is : c.unit_in.result ≡ unit_in c.args.order (get_or c.args.bytes.now (c.args.prefix - 2) 0) (get_or c.args.bytes.now (c.args.prefix - 2 + 1) 0) =
    c.unit_in.ensures ∙ ap (λ m. unit_in c.args.order (get_or c.args.bytes.now (c.args.prefix - 2) 0) (get_or c.args.bytes.now m 0)) next
    in
    cut-before_high c.args.order c.args.bytes.now (c.args.prefix - 2) c.unit_in.result (omega (arith, some, c.requires.even)) (omega (arith, some, c.requires.within)) is (sym c.is_high_surrogate.ensures ∙ c.if-is_high_surrogate.true)

pub returns-else-prefix-ge2-clause-cut : goal.returns-else-prefix-ge2-clause-cut
returns-else-prefix-ge2-clause-cut c = λ more. elim c.else-prefix-ge2.branch [
  | else-prefix-ge2-via-then-prefix-ge2+else-is_high_surrogate w ↦
      cut-after_plain c.args.order c.args.bytes.now c.args.prefix w.unit_in.result c.requires.even w.if-prefix-ge2.true c.requires.within w.unit_in.ensures (sym w.is_high_surrogate.ensures ∙ w.if-is_high_surrogate.false) (units_in c.args.order (drop c.args.prefix c.args.bytes.now ++ more))
  | else-prefix-ge2-via-else-prefix-ge2 w ↦ (
      let none : 0 ≡ c.args.prefix = omega (arith, w.if-prefix-ge2.false, c.requires.even) in
      subst (λ n. IsCut Utf16 (units_in c.args.order (take n c.args.bytes.now)) (units_in c.args.order (drop c.args.prefix c.args.bytes.now ++ more))) none (cut-at_prefix c.args.order c.args.bytes.now (units_in c.args.order (drop c.args.prefix c.args.bytes.now ++ more)))
      )
]
