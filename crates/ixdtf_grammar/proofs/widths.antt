-- Lemmas that compare the outcome of a 16-bit text with the outcome of the 8-bit text of the same numbers, up to the first bad code unit.
pub mod FirstBad
pub mod PlainDateTimes
pub mod PlainDurations
pub mod PlainLines
pub mod PlainTexts
