pub mod Inputs
pub mod Outputs
pub mod Requests
pub mod Texts
