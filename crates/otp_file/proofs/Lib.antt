pub mod ChildLemmas
pub mod Lists
pub mod Subs
pub mod TreeLemmas
pub mod WalkLemmas
