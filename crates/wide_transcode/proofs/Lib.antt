pub mod Certain
pub mod Finish
pub mod Pending
pub mod Zeros
pub mod Lossied
pub mod LossyEnds
pub mod Boms
pub mod ChunkEnds
mod Characters
pub mod Sofar
pub mod UnitsPending
