pub mod Prints
pub mod Cut
pub mod Scores
