pub mod Words
pub mod Stamps
pub mod Events
pub mod Nears
pub mod Logs
pub mod Told
