pub mod LineTexts
pub mod Edits
pub mod Units
pub mod Hex
pub mod Asking
pub mod Complete
