pub mod Faults
pub mod Lines
pub mod Read
pub mod Spaced
pub mod Said
pub mod Times
