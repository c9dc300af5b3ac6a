-- Document 01 of one connection, of what a search takes and of an answer, in 01's order.
pub mod Numbers
pub mod States
pub mod Times
pub mod Answers
pub mod Codes
pub mod Checks
pub mod Choices
