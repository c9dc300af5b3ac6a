-- Document 01 of the desk's columns.
pub mod Columns
pub mod Seen
pub mod Times
pub mod Search
pub mod Order
