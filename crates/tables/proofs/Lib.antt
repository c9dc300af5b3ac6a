-- The laws of the columns.
pub mod At
pub mod Used
pub mod Tidy
pub mod Connections
pub mod Shared
pub mod Items
pub mod Stored
pub mod Least
pub mod Chosen
pub mod Examples
