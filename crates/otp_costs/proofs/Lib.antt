pub mod CostsKnown
pub mod FallsKept
pub mod Ranked
pub mod Scenes
pub mod Steadies
pub mod Takings
pub mod TreeRanked
