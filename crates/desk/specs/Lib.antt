-- What the desk's code computes, column by column and in 01's order: what its contracts promise on every desk. The rules that it obeys, over what can be
-- observed, stand in the crate rules. What needs one connection alone stands in the crate rows, what columns tell in the crates tables and leaving.
pub mod Desk
pub mod Times
pub mod Calls
pub mod Questions
pub mod Cases
