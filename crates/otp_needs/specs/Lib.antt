pub mod Begun
pub mod Order
pub mod Restarted
pub mod Ups
