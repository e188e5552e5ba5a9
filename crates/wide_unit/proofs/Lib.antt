pub mod Literal
pub mod Front
pub mod Back
pub mod Lengths
pub mod Texts
pub mod Nuls
pub mod Faults
mod Whole
pub mod CharBoundaries
mod Feeds
pub mod LineOffsets
mod Ordered
pub mod Skipped
pub mod CodePoints
pub mod Printed
pub mod Kept
pub mod Debugged
mod Alone
pub mod StoredUnits
mod SameLanes
mod Prefixes
mod Masks
mod Pairs
pub mod Alike
