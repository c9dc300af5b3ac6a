-- The laws that the proofs of the desk's calls share.
pub mod Outcome
pub mod Computing
pub mod Cases
pub mod Owned
pub mod Stores
