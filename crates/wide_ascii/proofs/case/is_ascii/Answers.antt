use Rattle.std.proofs.Common.{◌≡◌, map, IsAscii, take, drop, ap, sym, subst, ◌∙◌, refl}
use Rattle.std.proofs.lemmas.List.{take-map, drop-map}
use Rattle.std.proofs.lemmas.Str.{IsAscii-take}
use Rattle.wide_ascii.proofs.Tested.{ascii-rest}
use Rattle.wide_ascii.proofs.case.is_ascii.Goals as goal

pub returns-then-not-is_ascii_block : goal.returns-then-not-is_ascii_block
returns-then-not-is_ascii_block g c =
    let number = g.C.Unit.number in
    let rest = c.loop-rest.rest.now in
    let front : take 64 (map number rest) ≡ map number c.split_at.result.0.now = take-map number 64 rest ∙ ap (map number) (sym c.split_at.ensures.front) in (
      λ e. absurd cc,
      λ all. c.if-not-is_ascii_block.ensures.1 (subst IsAscii front (IsAscii-take (map number rest) 64 (c.loop-rest.invariant.0 all))),
    )

pub loop-rest-preserved : goal.loop-rest-preserved
loop-rest-preserved g c =
    let number = g.C.Unit.number in
    let rest = c.loop-rest.rest.now in
    let front : take 64 (map number rest) ≡ map number c.split_at.result.0.now = take-map number 64 rest ∙ ap (map number) (sym c.split_at.ensures.front) in
    let back : drop 64 (map number rest) ≡ map number c.split_at.result.1.now = drop-map number 64 rest ∙ ap (map number) (sym c.split_at.ensures.back) in
    let both = ascii-rest (map number rest) 64 (subst IsAscii (sym front) (c.if-not-is_ascii_block.ensures.0 refl)) in (
      λ all. subst IsAscii back (both.0 (c.loop-rest.invariant.0 all)),
      λ end. c.loop-rest.invariant.1 (both.1 (subst IsAscii (sym back) end)),
    )
