pub mod UtfError
pub mod Converted
pub mod Nul
pub mod NulError
pub mod UCStringError
