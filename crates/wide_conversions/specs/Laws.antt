-- Proofs that definitions of this crate cite.
pub mod Utf8Items
