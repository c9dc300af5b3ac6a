-- What a set of places is, and what a word is as one.
pub mod Places
pub mod Words
