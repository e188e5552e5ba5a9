use Rattle.std.proofs.Common.{◌≡◌, ◌+◌, inl, inr, arith, get_or, subst}
use Rattle.std.proofs.lemmas.Bool.{cases_lt}
use Rattle.std.proofs.lemmas.Nat.{le_or_l, le_or_r}
use Rattle.wide_conversions.specs.Following.{CanFollow}
use Rattle.wide_conversions.proofs.utf8_validation.can_follow_by_rules.Goals as goal

pub loop-k-preserved : goal.loop-k-preserved
loop-k-preserved c = λ j within none.
    let bs = c.args.block.now in
    let before : c.loop-k.broken ≡ 0 = omega (arith, none, le_or_l c.loop-k.broken c.broken_rules-broken.result) in
    let now : c.broken_rules-broken.result ≡ 0 = omega (arith, none, le_or_r c.loop-k.broken c.broken_rules-broken.result) in
    elim (cases_lt j c.loop-k.k) [
      | inl early ↦ c.loop-k.invariant j early before
      | inr late ↦ (let same : c.loop-k.k ≡ j = omega arith in subst (λ k. CanFollow (get_or bs k 0) (get_or bs (k + 1) 0) (get_or bs (k + 2) 0) (get_or bs (k + 3) 0)) same (c.broken_rules-broken.ensures now))
    ]
