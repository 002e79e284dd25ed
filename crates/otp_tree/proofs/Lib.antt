pub mod Complete
pub mod Grown
