pub mod Runs
pub mod Lawful
pub mod Drawn
pub mod Full
pub mod Begun
