-- Lemmas that the proofs of functions use, here and in the layers above.
pub mod Located
pub mod Numbers
pub mod Pointed
