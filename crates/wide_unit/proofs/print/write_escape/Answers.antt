use Rattle.std.proofs.Common.{◌≡◌, [], ap, encode_utf8, encode_utf8_all, refl, true, take, drop, rules}
use Rattle.std.specs.Char.Iter.{escape_rest}
use Rattle.wide_unit.proofs.Printed.{styled-none, styled-more, styled-all, plain-of_styled}
use Rattle.wide_unit.proofs.print.write_escape.Goals as goal

pub loop-c-init : goal.loop-c-init
loop-c-init g c = (search rules, λ flush. styled-none _ _ flush (ap (λ e. encode_utf8_all (escape_rest e)) c.into_iter-c-iterator.ensures.into_iter_gives))

pub loop-c-preserved : goal.loop-c-preserved
loop-c-preserved g c = (
  search rules,
  λ flush.
      let so_far = c.loop-c.invariant.1 flush in
      styled-more (encode_utf8 c.in-Some.c) (encode_utf8_all (escape_rest c.next.new.self)) so_far (c.in_ok-write_char.ensures.styled so_far.wrote.flush (refl {a = true})) (ap encode_utf8_all c.in-Some.ensures.steps.1.0),
)

pub returns-clause-styled : goal.returns-clause-styled
returns-clause-styled g c = λ flush _.
    let e = c.loop-c.c-iterator in
    let none : escape_rest e ≡ [] = ap (λ n. take n (drop e.from e.chars)) c.in-None.ensures.steps.1.0 in
    styled-all (c.loop-c.invariant.1 flush) (ap encode_utf8_all none)

pub returns-clause-writes : goal.returns-clause-writes
returns-clause-writes g c = λ plain done. plain-of_styled plain (returns-clause-styled g c plain.flush done)
