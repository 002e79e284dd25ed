pub mod Words
pub mod Flags
pub mod Children
pub mod Faults
pub mod Lawful
pub mod Supervisor
pub mod Marks
