-- Lemmas that the proofs of the functions of the code use.
pub mod ExactParts
pub mod FirstPass
pub mod NameLoop
