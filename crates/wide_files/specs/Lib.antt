pub mod Boms
pub mod Forms
