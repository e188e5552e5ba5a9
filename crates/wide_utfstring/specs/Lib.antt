pub mod Drain
pub mod Faults
pub mod Case
pub mod CowText
