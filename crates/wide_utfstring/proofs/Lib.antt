pub mod Errors
pub mod Edits
pub mod Removed
pub mod Units32
pub mod Drained
pub mod Drains
pub mod Changes
mod Cased
mod Lossies
mod Copies
mod Overwritten
