pub mod CodesOfThree
pub mod FirstCharacters
pub mod FirstBits
pub mod PrefixUnits
pub mod MixedPrefixes
pub mod CodeLanes
