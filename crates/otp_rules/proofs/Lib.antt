mod Samples
mod Worked
mod Bits
pub mod Keeps
pub mod Decisions
pub mod Walks
pub mod States
pub mod Steady
pub mod Deadlines
pub mod Period
pub mod Rated
pub mod Counting
pub mod GoesOn
pub mod Sound
pub mod NeedsWork
pub mod WhileOpen
pub mod Stopping
pub mod InTurn
pub mod Numbers
pub mod Fits
pub mod Fitted
pub mod Starting
pub mod Lawful
pub mod StartTurn
pub mod Late
mod WorkedLaws
mod Shown
pub mod Homes
pub mod Slots
pub mod Named
pub mod Processes
pub mod Opened
pub mod Taken
pub mod Restarted
pub mod Runs
pub mod Few
pub mod Waits
pub mod EndedRows
pub mod Heard
pub mod Finishing
pub mod Lasting
pub mod Calm
pub mod Alive
mod Ended
pub mod NamedRows
pub mod Earlier
pub mod Cuts
pub mod Short
pub mod Answering
mod Known
