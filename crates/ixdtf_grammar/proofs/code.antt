-- Lemmas that the proofs of functions use.
pub mod Nanoseconds
