use Rattle.std.proofs.Common.{◌<◌, subst, sym, take}
use Rattle.wide_utf16_to_utf8.proofs.Rows.{eight-packed, row-small}
use Rattle.wide_utf16_to_utf8.proofs.three_bytes.put_packed.Goals as goal

pub put_row-half-requires-clause-below : goal.put_row-half-requires-clause-below
put_row-half-requires-clause-below c = subst (λ n. n < 256) (sym c.rows_of-first.ensures.first) (row-small _ _ _ _)

pub put_row-requires-clause-below : goal.put_row-requires-clause-below
put_row-requires-clause-below c = subst (λ n. n < 256) (sym c.rows_of-first.ensures.second) (row-small _ _ _ _)

pub returns-clause-text : goal.returns-clause-text
returns-clause-text c =
    eight-packed c.args.keys c.args.leads c.args.backs (take c.args.at c.args.out.now) (take c.put_row-half.result c.put_row-half.new.out) (take c.put_row.result c.put_row.new.out) c.words_of.result.0 c.words_of.result.1 c.fits-keys.0 c.fits-leads.0 c.fits-backs.0
    c.words_of.ensures.low c.words_of.ensures.high (c.put_row-half.ensures.text _ _ _ _ c.rows_of-first.ensures.first) (c.put_row.ensures.text _ _ _ _ c.rows_of-first.ensures.second)
