pub mod Fronts
pub mod Numbers
pub mod Parts
pub mod Readings
