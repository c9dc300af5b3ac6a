-- The laws of columns that change, and of what leaves.
pub mod Changed
pub mod Loops
pub mod Kept
pub mod Tickets
pub mod Places
pub mod Stay
pub mod First
pub mod Connections
