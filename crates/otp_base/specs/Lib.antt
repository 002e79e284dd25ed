pub mod Change
pub mod Lawful
pub mod Laws
pub mod Seats
pub mod States
