pub mod Opened
pub mod Pushed
pub mod Parts
pub mod Drains
pub mod Filters
pub mod CharAt
pub mod CharFilters
pub mod Repeats
pub mod Copied
pub mod Extends
mod Moved
mod Overwritten
