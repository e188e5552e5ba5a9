pub mod CString
pub mod View
pub mod Faults
pub mod Statements
