mod Nexts
mod Runs
pub mod Above
pub mod Agree
pub mod Answered
pub mod Changed
pub mod DrivenChanged
pub mod DrivenUnder
pub mod Each
pub mod Kept
pub mod Linkings
pub mod Plans
pub mod Plantings
pub mod Seen
pub mod Steps
pub mod Tellings
pub mod Under
pub mod Within
