pub mod Sorts
pub mod Replay
pub mod Actions
pub mod Statements
pub mod Worked
