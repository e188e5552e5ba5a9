pub mod Units
pub mod Taken
pub mod Lends
pub mod Drain
pub mod Extended
pub mod CowUnits
