pub mod Replayed
pub mod Tried
pub mod Compared
pub mod Suggested
