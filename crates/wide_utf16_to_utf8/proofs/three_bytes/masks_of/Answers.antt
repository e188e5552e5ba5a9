use Rattle.wide_utf16_to_utf8.proofs.LeadLanes.{masks-at}
use Rattle.wide_utf16_to_utf8.proofs.three_bytes.masks_of.Goals as goal

pub returns : goal.returns
returns c k within = masks-at 8 c.args.keys k c.fits-keys.0 within
