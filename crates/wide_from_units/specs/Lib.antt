pub mod Scalars
pub mod Lengths
