-- What a program can ask of a desk, and the four states of a timestamp.
pub mod Numbers
pub mod States
pub mod Calls
pub mod Questions
