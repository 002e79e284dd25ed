pub mod Cuts
pub mod Numbers
pub mod OnePass
pub mod Reasons
pub mod Words
