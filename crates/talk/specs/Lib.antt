-- What the session program promises of its reads and writes.
pub mod Talk
