use Rattle.std.proofs.Common.{◌+◌, ◌-◌, ◌<◌, IsTrue, inl, inr, arith, length}
use Rattle.std.proofs.lemmas.Bool.{cases_lt}
use Rattle.wide_search.proofs.Wasted.{passed-rare, near-end}
use Rattle.wide_search.proofs.search.find_after.Goals as goal
use Rattle.wide_search.proofs.search.find_after.Goals.{else-is_frequent-via-then-is_frequent+else-units-at, else-is_frequent-via-else-is_frequent}

pub loop-at-init : goal.loop-at-init
loop-at-init g c =
    let m = length (g.P.Needle.sought c.args.needle) in
    let n = length c.args.units.now in
    record {
      some = omega arith;
      within = c.requires.within;
      before = c.requires.before;
      grows = omega arith;
      few = λ _. omega arith;
      narrow = λ _ _. omega arith;
      narrow_near = λ _. omega arith;
      wide = λ _ _ _. omega arith;
      wide_near = λ _ _ near. omega (arith, near-end m (n + 1 - m - c.args.from) (omega (arith, near)));
    }

pub loop-at-preserved-then-units-at : goal.loop-at-preserved-then-units-at
loop-at-preserved-then-units-at g c =
    let i = c.loop-at.invariant in
    let m = length (g.P.Needle.sought c.args.needle) in
    let n = length c.args.units.now in
    let one = c.find_by_first-stop.ensures in
    let two = c.find_by_two-next.ensures in
    let missed : ¬ (IsTrue c.find_by_first-stop.result.is_found) = λ found. cc (found, c.if-stop.false) in
    let missed2 : ¬ (IsTrue c.find_by_two-next.result.0.is_found) = λ found. cc (found, c.if-stop-2.false) in
    let before : n < 144115188075855872 → c.find_by_first-stop.result.at + m + 48 < n = λ short. omega (arith, short, c.if-units-at.true, c.saturating_add.ensures, c.len-then-is_frequent.ensures, one.within) in
    record {
      some = two.some;
      within = two.within;
      before = two.before;
      grows = elim (cases_lt 512 m) [
        | inl wide ↦ omega (arith, i.grows, (one.wide (i.few wide)).0, two.grows)
        | inr narrow ↦ omega (arith, i.grows, (one.narrow narrow).0, two.grows)
      ];
      few = λ wide. omega (arith, two.tries wide);
      narrow = λ narrow fits. omega (arith, i.narrow narrow (omega (arith, fits, one.after, two.after)), (one.narrow_unfound missed narrow).1, (two.narrow_unfound missed2 narrow fits).1, one.after, two.after);
      narrow_near = λ narrow. omega (arith, i.narrow narrow (omega (arith, c.if-units-at.true, c.saturating_add.ensures, c.len-then-is_frequent.ensures, narrow, one.after)), (one.narrow_unfound missed narrow).1, (two.narrow narrow).1, one.after, two.after);
      wide = λ short wide far. omega (arith, i.wide short wide (omega (arith, before short, one.after)), (one.wide (i.few wide)).1, (two.wide short (omega (arith, before short)) wide).1, two.far missed2 wide (omega (arith, far)), one.after, two.after, wide);
      wide_near = λ short wide near. omega (arith, i.wide short wide (omega (arith, before short, one.after)), (one.wide (i.few wide)).1, (two.wide short (omega (arith, before short)) wide).1, one.after, two.after, near-end m (n + 1 - m - c.find_by_two-next.result.0.at) (omega (arith, near)));
    }

pub loop-at-preserved : goal.loop-at-preserved
loop-at-preserved g c =
    let i = c.loop-at.invariant in
    let m = length (g.P.Needle.sought c.args.needle) in
    let n = length c.args.units.now in
    let one = c.find_by_first-stop.ensures in
    let missed : ¬ (IsTrue c.find_by_first-stop.result.is_found) = λ found. cc (found, c.if-stop.false) in
    record {
      some = i.some;
      within = one.within;
      before = one.before;
      grows = elim (cases_lt 512 m) [
        | inl wide ↦ omega (arith, i.grows, (one.wide (i.few wide)).0)
        | inr narrow ↦ omega (arith, i.grows, (one.narrow narrow).0)
      ];
      few = i.few;
      narrow = λ narrow fits. omega (arith, i.narrow narrow (omega (arith, fits, one.after)), (one.narrow_unfound missed narrow).1, one.after);
      narrow_near = λ narrow. omega (arith, i.narrow_near narrow, (one.narrow_unfound missed narrow).1, one.after);
      wide = λ short wide far. elim c.else-is_frequent.branch [
        | else-is_frequent-via-then-is_frequent+else-units-at w ↦ absurd (omega (arith, far, short, w.if-units-at.false, w.saturating_add.ensures, w.len-then-is_frequent.ensures, one.within))
        | else-is_frequent-via-else-is_frequent w ↦ omega (
          arith,
          i.wide short wide (omega (arith, far, one.after)),
          (one.wide (i.few wide)).1,
          one.after,
          passed-rare (c.find_by_first-stop.result.at - c.loop-at.at) c.loop-at.tries m i.some (omega (arith, w.if-is_frequent.false, c.len.ensures)),
        )
      ];
      wide_near = λ short wide near. elim (cases_lt (c.loop-at.at + m + 48) n) [
        | inl far ↦ omega (arith, i.wide short wide far, (one.wide (i.few wide)).1, one.after, near-end m (n + 1 - m - c.find_by_first-stop.result.at) (omega (arith, near)))
        | inr late ↦ omega (arith, i.wide_near short wide late, one.left missed, one.after)
      ];
    }
