-- Document 01, "The session program": a turn of a session, and the whole session from its input's bytes to its output's bytes.
pub mod Turns
pub mod Tickets
pub mod Sessions
pub mod Notes
pub mod Stream
