pub mod Edited
pub mod Indices
pub mod Marked
pub mod Replaced
