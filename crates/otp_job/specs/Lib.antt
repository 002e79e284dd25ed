pub mod Bridges
pub mod Places
pub mod Processes
pub mod Turns
