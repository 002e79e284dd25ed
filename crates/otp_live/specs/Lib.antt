pub mod Answers
pub mod Reaches
pub mod Shortened
pub mod Spans
pub mod Stages
