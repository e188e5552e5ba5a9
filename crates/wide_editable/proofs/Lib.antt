pub mod Made
pub mod Shorter
pub mod Kept
pub mod AtFound
pub mod Replaced
pub mod Applied
pub mod Runs
