pub mod Few
pub mod Ran
