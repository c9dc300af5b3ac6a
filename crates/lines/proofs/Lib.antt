-- Lines read from left to right: a number, the fields; the reasons of a line that is not readable; what holds of every line; and lines computed.
pub mod Numbers
pub mod Fields
pub mod Behind
pub mod Letters
pub mod Bytes
pub mod Order
pub mod Every
pub mod Told
pub mod Large
pub mod Examples
