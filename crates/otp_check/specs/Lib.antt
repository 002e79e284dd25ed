pub mod Advice
pub mod Checks
pub mod Places
pub mod Texts
pub mod Unfit
