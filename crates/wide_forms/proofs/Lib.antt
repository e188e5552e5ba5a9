pub mod Stored
pub mod Tables
