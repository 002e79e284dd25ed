pub mod Costs
pub mod Frame
pub mod Limits
pub mod Maps
pub mod Markup
pub mod Names
pub mod Style
pub mod Trees
