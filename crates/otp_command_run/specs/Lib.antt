pub mod Awaited
pub mod Lives
pub mod Object
pub mod Running
