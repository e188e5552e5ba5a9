pub mod Steps
pub mod Hands
pub mod Sources
pub mod Turns
pub mod Runs
pub mod Ended
pub mod Replaced
pub mod FaultRuns
