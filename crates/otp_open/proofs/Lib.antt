pub mod Fresh
pub mod Firsts
pub mod Splits
pub mod Handed
pub mod EachOpened
pub mod SparePlaces
pub mod Adds
pub mod Readies
