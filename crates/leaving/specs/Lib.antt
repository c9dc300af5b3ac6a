-- Document 01 of what leaves the desk.
pub mod Leaving
