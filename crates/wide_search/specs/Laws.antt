-- Proofs that contracts and definitions of this crate cite, and the laws that dependent crates cite.
pub mod Occurrences
pub mod Numbers
pub mod Ends
pub mod Characters
pub mod Cuts
pub mod Sets
