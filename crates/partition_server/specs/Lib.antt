pub mod Waits
pub mod ById
pub mod Held
pub mod Layout
pub mod Faults
pub mod Taking
pub mod Answers
pub mod CommitMarks
