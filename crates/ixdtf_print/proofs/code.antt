-- Lemmas for the proofs of the code.
pub mod CanonicalLengths
pub mod DigitLoop
pub mod DigitTable
pub mod DisplayedBytes
pub mod LoneLengths
pub mod PlainNumbers
pub mod PutBytes
pub mod ScaledNumbers
pub mod ValueLoop
pub mod ValueTest
pub mod WideUnits
pub mod YearSigns
