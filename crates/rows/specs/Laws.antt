pub mod Rule
pub mod Order
pub mod Complete
pub mod Places
pub mod Middle
pub mod Seats
