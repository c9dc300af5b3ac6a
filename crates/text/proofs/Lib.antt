pub mod Digits
pub mod Stores
pub mod Room
pub mod Laws
pub mod Examples
