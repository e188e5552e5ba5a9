pub mod CowCString
pub mod Made
pub mod Rejected
