use Rattle.std.proofs.Common.{w16}
use Rattle.std.proofs.lemmas.Simd.{below_from_Fits}
use Rattle.wide_utf16_to_utf8.proofs.Rows.{high-word, low-word}
use Rattle.wide_utf16_to_utf8.proofs.three_bytes.words_of.Goals as goal

pub returns-clause-low : goal.returns-clause-low
returns-clause-low c = low-word c.args.leads c.args.backs c.fits-leads.0 c.fits-backs.0 (below_from_Fits w16 c.args.leads c.fits-leads.1) (below_from_Fits w16 c.args.backs c.fits-backs.1)

pub returns-clause-high : goal.returns-clause-high
returns-clause-high c = high-word c.args.leads c.args.backs c.fits-leads.0 c.fits-backs.0 (below_from_Fits w16 c.args.leads c.fits-leads.1) (below_from_Fits w16 c.args.backs c.fits-backs.1)
