use Rattle.std.proofs.Common.{w16}
use Rattle.std.proofs.lemmas.Simd.{below_from_Fits}
use Rattle.wide_repair.proofs.CompressedLanes.{compressed-lead, compressed-shuffle, compressed-within}
use Rattle.wide_repair.proofs.compression.compress.Goals as goal

pub swizzle : goal.swizzle
swizzle c = compressed-shuffle c.args.bits c.requires.below

pub returns-clause-compressed : goal.returns-clause-compressed
returns-clause-compressed c = compressed-lead c.args.bits c.requires.below c.args.lanes c.fits-lanes.0 (below_from_Fits w16 c.args.lanes c.fits-lanes.1)

pub returns-clause-within : goal.returns-clause-within
returns-clause-within c = compressed-within c.args.bits c.requires.below c.args.lanes c.fits-lanes.0 (below_from_Fits w16 c.args.lanes c.fits-lanes.1)
