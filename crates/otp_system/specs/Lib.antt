pub mod Hearings
pub mod Happenings
pub mod Servings
pub mod Supervised
pub mod Callings
