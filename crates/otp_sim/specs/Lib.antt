pub mod Sim
pub mod Devices
pub mod Runs
pub mod PlayerInside
