pub mod ScalarTexts
pub mod ScalarPrefixes
pub mod RecodedPrefixes
pub mod Utf8Texts
pub mod Utf8Lengths
pub mod LossyPrefixes
pub mod StoredBytes
