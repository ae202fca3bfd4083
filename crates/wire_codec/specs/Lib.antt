pub mod Spelling
pub mod Runs
pub mod Reading
pub mod Layouts
pub mod Faults
