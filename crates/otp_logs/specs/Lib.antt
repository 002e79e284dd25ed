pub mod Words
pub mod Times
pub mod Objects
pub mod Lines
pub mod Formats
pub mod Translated
