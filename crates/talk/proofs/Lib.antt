-- What is true of an input that is read and answered part by part, apart from any one function.
pub mod Telling
pub mod Writing
