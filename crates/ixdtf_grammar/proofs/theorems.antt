-- Theorems about every text.
pub mod CoreEnds
pub mod CoreSizes
pub mod Disjoint
pub mod FewPairs
pub mod InstantTexts
pub mod Instants
pub mod NoRow
