pub mod Buffers
pub mod Bytes
pub mod Compared
pub mod Converters
pub mod Parts
pub mod Policies
pub mod UnitBytes
