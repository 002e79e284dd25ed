pub mod AnswersInside
pub mod Events
pub mod HistoryInside
pub mod Kept
pub mod Queued
pub mod Seen
pub mod WaitsInside
