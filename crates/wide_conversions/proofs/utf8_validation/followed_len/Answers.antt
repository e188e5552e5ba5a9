use Rattle.std.proofs.Common.{◌-◌, arith, refl, length, length-take, length-drop, drop}
use Rattle.wide_conversions.proofs.ValidPrefixes.{ascii_following, block_following}
use Rattle.wide_conversions.proofs.utf8_validation.followed_len.Goals as goal

pub returns-then-is_ascii-clause-follow : goal.returns-then-is_ascii-clause-follow
returns-then-is_ascii-clause-follow c =
    ascii_following c.args.text.now c.ascii_len.result _ (c.if-is_ascii.ensures refl) c.ascii_len.ensures.ascii (omega (arith, c.ascii_len.ensures.within, length-take (length c.args.text.now - 67) (drop 67 c.args.text.now), length-drop 67 c.args.text.now))

pub returns-then-can_follow_by_rules-clause-follow : goal.returns-then-can_follow_by_rules-clause-follow
returns-then-can_follow_by_rules-clause-follow c = block_following c.args.text.now (c.if-can_follow_by_rules.ensures refl)
