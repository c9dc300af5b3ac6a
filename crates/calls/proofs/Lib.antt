-- What is known of a state by what is asked of it, and of the calls that a program can pass.
pub mod Known
pub mod Passable
