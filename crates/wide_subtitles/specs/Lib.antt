pub mod Kinds
pub mod Lines
pub mod Locations
pub mod Times
