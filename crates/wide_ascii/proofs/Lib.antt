pub mod Replaced
pub mod Tested
pub mod Texts
