-- What is true of a session's turns and of its bytes as they arrive, apart from any one function.
pub mod Turning
pub mod Feeding
pub mod Room
pub mod Parts
pub mod Examples
