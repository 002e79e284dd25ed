pub mod Padded
pub mod Names
pub mod Texts
pub mod Quiet
pub mod Delivery
