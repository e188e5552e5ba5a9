pub mod ValidPrefixes
pub mod FirstItems
pub mod PrefixTexts
pub mod ChunkEnds
pub mod LossyItems
pub mod LossyFaults
