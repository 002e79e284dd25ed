pub mod Pages
pub mod Pieces
pub mod Runs
pub mod Stands
