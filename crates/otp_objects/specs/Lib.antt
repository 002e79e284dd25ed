pub mod Names
pub mod Values
pub mod Limits
pub mod Stops
pub mod Suggested
pub mod Rooted
pub mod Trees
