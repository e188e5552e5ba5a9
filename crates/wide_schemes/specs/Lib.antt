pub mod Wtf8
pub mod Layouts
pub mod Wtf8Items
pub mod Wtf8Laws
pub mod ItemLaws
pub mod Decoded
pub mod PointRuns
pub mod Schemes
