-- The laws of places and words, and what the machine computes in these terms.
pub mod YesOrNo
pub mod Digits
pub mod Laws
pub mod Changes
pub mod Walk
pub mod Search
pub mod Gathered
pub mod Machine
pub mod Examples
