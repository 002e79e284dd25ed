pub mod Rows
pub mod Deadlines
pub mod Keys
pub mod Marks
pub mod Numbers
pub mod Table
pub mod TableInside
pub mod Counted
