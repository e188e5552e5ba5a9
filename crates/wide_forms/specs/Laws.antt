-- Proofs that contracts and definitions of this crate cite, and the laws that dependent crates cite.
pub mod Forms
pub mod Chains
pub mod Items
pub mod Ends
pub mod Utf32
pub mod Lossy
pub mod Policies
pub mod Boundaries
pub mod Offsets
pub mod Splices
pub mod Texts
pub mod Encodings
pub mod WellFormed
pub mod Utf8
pub mod Lines
pub mod LowSurrogates
