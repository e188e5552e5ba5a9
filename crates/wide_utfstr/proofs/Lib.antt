pub mod Boundary
pub mod Walk
pub mod IndexedLemmas
pub mod Indices
pub mod Counts
mod Trims
mod Trimmed
mod Same
mod SameChunks
mod Escaped
mod Displayed
mod Ordered
mod Lowercase
mod StrTexts
mod Matched
