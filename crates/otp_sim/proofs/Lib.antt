pub mod Texts
pub mod Progress
pub mod Playing
pub mod Writes
pub mod Exits
pub mod Played
pub mod Settled
