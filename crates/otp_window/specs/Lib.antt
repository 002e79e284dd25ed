pub mod Period
pub mod Answer
pub mod View
pub mod Kept
pub mod Inside
