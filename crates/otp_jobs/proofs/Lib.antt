pub mod Begun
pub mod Enough
pub mod PlanLemmas
pub mod Same
