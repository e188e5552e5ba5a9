pub mod Following
pub mod Laws
pub mod Utf8Items
pub mod ChunkEnds
