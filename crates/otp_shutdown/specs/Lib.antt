pub mod Stops
pub mod Columns
pub mod Told
