pub mod Offsets
pub mod Texts
mod PairLanes
mod Ranges
mod Probing
mod Spent
mod Wasted
mod Suffixes
mod Cuts
mod Orders
mod Shifts
mod Sides
mod Prefixes
mod Single
pub mod Members
mod Lowercase
pub mod Characters
