use Rattle.std.proofs.Common.{false, ◌≡◌, ◌+◌, ◌-◌, ◌<◌, [], ◌++◌, length, length-drop, length-take, take, drop, sym, ap, ◌∙◌, subst, arith}
use borrow.Rule.Slice.PartMut.{put_mid}
use Rattle.wide_schemes.proofs.Puts.{put-at, put-length}
use Rattle.wide_convert.specs.Converting.{Pushes, bom_bytes}
use Rattle.wide_convert.specs.declared.converter.ProgressEnd.TheVariants.{NoSpace}
use Rattle.wide_convert.proofs.Feeding.{pushes-none, pushes-of}
use Rattle.wide_convert.proofs.converter.Converter.run.Goals as goal

pub returns-then-output-lt-LEAST_SPACE-clause-pushes : goal.returns-then-output-lt-LEAST_SPACE-clause-pushes
returns-then-output-lt-LEAST_SPACE-clause-pushes c =
    let inside = c.self.inside in
    let full : length c.args.output.now - 0 < 8 = omega (arith, c.if-output-lt-LEAST_SPACE.true) in
    subst (λ v. Pushes v v c.args.input.now c.args.is_last 0 [] (length c.args.output.now - 0) NoSpace) c.self.view_is (pushes-none inside.reading inside.to inside.bom c.args.input.now c.args.is_last (length c.args.output.now - 0) c.self.invariant.ready full)

pub returns-clause-pushes : goal.returns-clause-pushes
returns-clause-pushes c =
    let inside = c.self.inside in
    let put = c.put_bom-start in
    let feed = c.feed-progress in
    let at = put.result in
    let out = put.new.out in
    let w = feed.result.written in
    let k = length out - at in
    let part : length feed.new.out ≡ k = omega (arith, feed.auto.out, length-take k (drop at out), length-drop at out) in
    let long : length (put_mid at k out feed.new.out) ≡ length out = put-length out feed.new.out at k (omega (arith, put.ensures.within)) part in
    let room : length feed.new.out - w ≡ length (put_mid at k out feed.new.out) - (at + w) = omega (arith, part, long, feed.ensures.written) in
    let joined : bom_bytes inside.to inside.bom ++ take w feed.new.out ≡ take (at + w) (put_mid at k out feed.new.out) = ap (λ xs. xs ++ take w feed.new.out) (sym put.ensures.text) ∙ put-at out feed.new.out at w k put.ensures.within feed.ensures.written in
    let written = take (at + w) (put_mid at k out feed.new.out) in
    let left = length (put_mid at k out feed.new.out) - (at + w) in
    subst (λ v. Pushes v (record { reading = feed.new.reading; to = inside.to; bom = false }) c.args.input.now c.args.is_last feed.result.read written left feed.result.end) c.self.view_is
    (pushes-of inside.reading feed.new.reading inside.to inside.bom c.args.input.now c.args.is_last feed.result.read written (take w feed.new.out) (length feed.new.out - w) left feed.result.end feed.ensures.fed room feed.ensures.same joined)
