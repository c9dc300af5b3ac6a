-- That the desk obeys the rules: its view, the desks that calls reach, and what is claimed of them.
pub mod Reached
pub mod Order
pub mod View
pub mod Claims
