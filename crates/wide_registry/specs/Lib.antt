pub mod Digits
pub mod Entries
pub mod Escapes
pub mod Headers
pub mod Lines
