-- Lemmas for the proofs of the code.
pub mod Chains
pub mod Counted
pub mod EqualRecords
pub mod FixedCores
pub mod HandledForms
pub mod HandsOn
pub mod Placed
pub mod Promised
pub mod RaisedErrors
pub mod Tail
