pub mod Encoded
pub mod PairedText
pub mod TwoBytes
pub mod ThreeBytes
