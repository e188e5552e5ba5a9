use Rattle.std.proofs.Common.{◌≡◌, ◌≤◌, take, length, arith}
use Rattle.std.proofs.lemmas.List.{take_all}
use Rattle.wide_registry.specs.Escapes.{has_quote}
use Rattle.wide_registry.proofs.Quotes.{more_backslash, more_escaped, more_other, no_quote, quote}
use Rattle.wide_registry.proofs.string.closing_quote.Goals as goal
use Rattle.wide_registry.proofs.string.closing_quote.Goals.{then-is_escaped, else-is_escaped+else-unit-eq-QUOTE+then-unit-eq-BACKSLASH, else-is_escaped+else-unit-eq-QUOTE+else-unit-eq-BACKSLASH}

pub loop-offset-preserved : goal.loop-offset-preserved
loop-offset-preserved c =
    elim c.if-is_escaped.branch [
      | then-is_escaped w ↦ more_escaped c.args.text.now c.loop-offset.offset c.loop-offset-test.true w.if-is_escaped.true w.is_escaped-is c.loop-offset.invariant
      | else-is_escaped+else-unit-eq-QUOTE+then-unit-eq-BACKSLASH w ↦
          more_backslash c.args.text.now c.loop-offset.offset c.loop-offset-test.true w.if-unit-eq-BACKSLASH.true w.if-is_escaped.false w.is_escaped-is c.loop-offset.invariant
      | else-is_escaped+else-unit-eq-QUOTE+else-unit-eq-BACKSLASH w ↦
          more_other c.args.text.now c.loop-offset.offset c.loop-offset-test.true w.if-unit-eq-BACKSLASH.false w.if-unit-eq-QUOTE.false w.if-is_escaped.false w.is_escaped-is c.loop-offset.invariant
    ]

pub returns-then-unit-eq-QUOTE-clause-first : goal.returns-then-unit-eq-QUOTE-clause-first
returns-then-unit-eq-QUOTE-clause-first c = no_quote _ _ c.loop-offset.invariant

pub returns-then-unit-eq-QUOTE-clause-quote : goal.returns-then-unit-eq-QUOTE-clause-quote
returns-then-unit-eq-QUOTE-clause-quote c =
    quote c.args.text.now c.loop-offset.offset c.loop-offset-test.true c.if-unit-eq-QUOTE.true c.if-is_escaped.false c.loop-offset.invariant

pub returns-clause-none : goal.returns-clause-none
returns-clause-none c =
    let all : length c.args.text.now ≤ c.loop-offset.offset = omega arith in
    rw (take_all c.loop-offset.offset c.args.text.now all) at (no_quote _ _ c.loop-offset.invariant)
