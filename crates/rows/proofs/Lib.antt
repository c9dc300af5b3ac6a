-- The laws of one connection, of what a search takes and of answers, for the crates above.
pub mod Laws
pub mod Checks
pub mod Seen
pub mod Changed
pub mod Orders
pub mod Examples
