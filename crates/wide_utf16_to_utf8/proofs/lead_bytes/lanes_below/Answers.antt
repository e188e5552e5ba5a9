use Rattle.wide_utf16_to_utf8.proofs.Shuffles.{bits-below}
use Rattle.wide_utf16_to_utf8.proofs.lead_bytes.lanes_below.Goals as goal

pub returns : goal.returns
returns c = bits-below c.args.bound c.args.lanes c.fits-lanes.0
