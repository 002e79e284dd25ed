pub mod Children
pub mod Plans
pub mod Trees
pub mod Faults
pub mod Drawings
pub mod Inside
pub mod Kinds
pub mod Paths
