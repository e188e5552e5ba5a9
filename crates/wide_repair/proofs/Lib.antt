pub mod Counts
mod Repairs
pub mod CompressedLanes
pub mod Retained
mod LossyScalars
mod EndFaults
mod LossyChunks
