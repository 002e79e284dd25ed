mod Replayed
pub mod Checked
pub mod Joined
pub mod Judged
pub mod Remarked
pub mod Untold
pub mod Written
