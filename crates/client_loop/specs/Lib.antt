pub mod Ends
pub mod Asks
pub mod Byes
pub mod Texts
pub mod Scripts
pub mod Reading
pub mod Runs
