pub mod Walks
pub mod Nears
pub mod Led
pub mod Growths
pub mod Fits
