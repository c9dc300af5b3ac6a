-- Document 01, "The session program": a line, why one is not readable, and what is claimed of every line.
pub mod Lines
pub mod Faults
pub mod Claims
pub mod Reading
