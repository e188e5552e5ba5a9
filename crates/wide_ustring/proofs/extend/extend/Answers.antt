use Rattle.std.proofs.Common.{rules, arith, ap, ◌∙◌, length}
use Rattle.std.proofs.lemmas.Grind.{common_steps}
use Rattle.wide_ustring.proofs.Extends.{Yields-one_more, Adds-at_err}
use Rattle.wide_ustring.proofs.extend.extend.Goals as goal

pub returns-in_err-push_to-clause-added : goal.returns-in_err-push_to-clause-added
returns-in_err-push_to-clause-added g c =
    Adds-at_err c.from_residual.result c.args.pieces g.S.Growing.seen c.args.string.now c.push_to.new.string c.from_residual.ensures.0 (record {
      iterator = c.into_iter-piece-iterator.result;
      items = c.loop-piece.yielded;
      failed = c.in-Some.piece;
      later = c.next.new.self;
      from = c.into_iter-piece-iterator.ensures.into_iter_gives;
      given = Yields-one_more g.U.IntoIter.Iterator.next_gives _ c.loop-piece.piece-iterator c.next.new.self c.loop-piece.yielded c.in-Some.piece (search rules) (search rules);
      units = ap (λ s. (g.S.Growing.seen s).units) c.in_err-push_to.ensures.err ∙ c.loop-piece.invariant.added;
      full = omega (arith, c.in_err-push_to.ensures.full, ap (λ s. (g.S.Growing.seen s).capacity) c.in_err-push_to.ensures.err, ap (λ s. length (g.S.Growing.seen s).units) c.in_err-push_to.ensures.err);
    })

pub loop-piece-preserved : goal.loop-piece-preserved
loop-piece-preserved g c = grind (arith, common_steps)
