pub mod Encoded
pub mod Lossied
pub mod Chunks
pub mod Run
pub mod Transcoded
