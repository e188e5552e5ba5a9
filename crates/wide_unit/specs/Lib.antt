pub mod LeadingByte
pub mod CommonPrefix
pub mod CodePoints
pub mod Unit
pub mod AnyUnits
pub mod Nul
