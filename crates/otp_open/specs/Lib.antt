pub mod Drafts
pub mod Opens
pub mod Passes
pub mod Plans
pub mod Spares
pub mod Adds
pub mod Readies
