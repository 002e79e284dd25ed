pub mod Asides
pub mod Begun
pub mod EachRead
pub mod Ended
pub mod Sendings
pub mod Standings
