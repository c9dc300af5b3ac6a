-- Document 01 as rules over what can be observed of a desk, and what holds of every run under them.
pub mod Rules
pub mod Runs
pub mod Claims
