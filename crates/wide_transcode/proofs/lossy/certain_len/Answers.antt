use Rattle.std.proofs.Common.{◌≡◌, ◌*◌, ◌-◌, ◌<◌, ◌/◌, false, length, ap, sym, ◌∙◌, arith, get_or}
use Rattle.wide_forms.specs.Searches.{is_high}
use Rattle.wide_transcode.proofs.Certain.{top-of_high, high-pending, high-cut, some-left, ready-pending, ready-cut, ready-no_zero}
use Rattle.wide_bytes.proofs.Pairs.{length-units_in}
use Rattle.wide_transcode.proofs.lossy.certain_len.Goals.{else-ready-gt0-via-then-ready-gt0+then-bytes-ready-lt2+else-is_high_surrogate, else-ready-gt0-via-then-ready-gt0+else-bytes-ready-lt2, else-ready-gt0-via-else-ready-gt0}
use Rattle.wide_transcode.proofs.lossy.certain_len.Goals as goal

pub bounds-units-ready : goal.bounds-units-ready
bounds-units-ready c = omega (arith, ap length c.requires, length-units_in c.args.order c.args.bytes.now, c.len_before_zero-ready.ensures.within, c.if-ready-gt0.true)

pub returns-then-is_high_surrogate-clause-pending : goal.returns-then-is_high_surrogate-clause-pending
returns-then-is_high_surrogate-clause-pending c =
    let r = c.len_before_zero-ready.result / 2 in
    let some = c.if-ready-gt0.true in
    let within = c.len_before_zero-ready.ensures.within in
    let short = c.if-bytes-ready-lt2.true in
    high-pending c.args.order c.args.bytes.now c.args.units.now (r - 1) c.requires (omega (arith, some, within)) (top-of_high _ (sym c.is_high_surrogate.ensures ∙ c.if-is_high_surrogate.true)) (omega (arith, some, short))

pub returns-then-is_high_surrogate-clause-cut : goal.returns-then-is_high_surrogate-clause-cut
returns-then-is_high_surrogate-clause-cut c =
    let r = c.len_before_zero-ready.result / 2 in
    high-cut c.args.order c.args.bytes.now c.args.units.now (r - 1) c.requires (omega (arith, c.if-ready-gt0.true, c.len_before_zero-ready.ensures.within)) (top-of_high _ (sym c.is_high_surrogate.ensures ∙ c.if-is_high_surrogate.true))

pub returns-then-is_high_surrogate-clause-no_zero : goal.returns-then-is_high_surrogate-clause-no_zero
returns-then-is_high_surrogate-clause-no_zero c =
    let r = c.len_before_zero-ready.result / 2 in
    λ none. absurd (some-left c.args.bytes.now (2 * (r - 1)) (omega (arith, c.if-ready-gt0.true, c.len_before_zero-ready.ensures.within)) none)

pub returns-else-ready-gt0-clause-pending : goal.returns-else-ready-gt0-clause-pending
returns-else-ready-gt0-clause-pending c =
    let ready = c.len_before_zero-ready in
    ready-pending c.args.order c.args.bytes.now c.args.units.now ready.result c.requires ready.ensures.within ready.ensures.some

pub returns-else-ready-gt0-clause-cut : goal.returns-else-ready-gt0-clause-cut
returns-else-ready-gt0-clause-cut c =
    let ready = c.len_before_zero-ready in
    let r = ready.result / 2 in
    let plain : 0 < r → length c.args.bytes.now - 2 * r < 2 → is_high (get_or c.args.units.now (r - 1) 0) ≡ false =
    elim c.else-ready-gt0.branch [
      | else-ready-gt0-via-then-ready-gt0+then-bytes-ready-lt2+else-is_high_surrogate w ↦ (λ some short. sym w.is_high_surrogate.ensures ∙ w.if-is_high_surrogate.false)
      | else-ready-gt0-via-then-ready-gt0+else-bytes-ready-lt2 w ↦ (λ some short. absurd (omega (arith, short, w.if-bytes-ready-lt2.false)))
      | else-ready-gt0-via-else-ready-gt0 w ↦ (λ some short. absurd (omega (arith, some, w.if-ready-gt0.false)))
    ] in
    ready-cut c.args.order c.args.bytes.now c.args.units.now ready.result c.requires ready.ensures.within ready.ensures.some plain

pub returns-else-ready-gt0-clause-no_zero : goal.returns-else-ready-gt0-clause-no_zero
returns-else-ready-gt0-clause-no_zero c =
    let ready = c.len_before_zero-ready in
    ready-no_zero c.args.order c.args.bytes.now c.args.units.now ready.result c.requires ready.ensures.within ready.ensures.some ready.ensures.all
