pub mod Alike
pub mod Supervised
