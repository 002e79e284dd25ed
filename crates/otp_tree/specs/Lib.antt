pub mod Closes
pub mod Adds
pub mod Runs
