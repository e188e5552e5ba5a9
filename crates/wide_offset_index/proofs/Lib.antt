pub mod Lengths
pub mod Offsets
pub mod Marking
pub mod Neighbors
pub mod Substrings
pub mod Passes
pub mod Few
