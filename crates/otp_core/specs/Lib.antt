pub mod View
pub mod Again
pub mod CoreInside
pub mod Opened
pub mod Replies
pub mod Full
pub mod Happened
pub mod Resumed
