pub mod Repaired
pub mod Compressed
