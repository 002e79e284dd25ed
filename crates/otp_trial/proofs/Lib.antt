mod Doings
mod Phases
pub mod Again
pub mod Kept
pub mod Pathings
pub mod Plantings
pub mod Tellings
