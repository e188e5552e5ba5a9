pub mod Ends
pub mod Repeated
pub mod Cased
pub mod Replaced
