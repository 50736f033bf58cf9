-- The outcome of a 16-bit text, compared with the 8-bit text of the same numbers.
pub mod PlainBefore
pub mod Widths
