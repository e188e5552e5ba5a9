pub mod Decoded
pub mod Mixed
