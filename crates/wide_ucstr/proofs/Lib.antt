pub mod Compared
pub mod Cuts
