pub mod Parts
pub mod Lengths
pub mod DecodedParts
pub mod Faults
pub mod Appends
pub mod DecodedWindows
mod UnitsOfSlices
