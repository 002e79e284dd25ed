pub mod Counted
pub mod Going
pub mod Needed
pub mod Stored
pub mod Walk
