-- Lemmas about the parts of texts.
pub mod Classes
pub mod CoreLetters
pub mod Texts
